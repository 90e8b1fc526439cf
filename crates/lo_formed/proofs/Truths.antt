-- What each operator that gives a truth value is lowered to is well formed.
use Rattle.std.proofs.Common.{◌≡◌, ℕ, ◌+◌, ◌==◌, ℤ, Bool, true, false, List, [], ◌∷◌, ◌++◌, length, map, subst, arith, slice_index_or, if◌then◌else◌}
use Rattle.std.specs.List.{AllByRecursion}
use Rattle.fz_model.specs.declared.builtin.Builtin.TheVariants.{IntEqReif, BoolNot, BoolXor, ArrayBoolAnd, ArrayBoolOr}
use Rattle.fz_model.specs.Limits.{IsSmall, exactly}
use Rattle.xs_model.specs.declared.expr.Op.{Op}
use Rattle.xs_model.specs.declared.expr.Op.TheVariants.{Neg, Abs, Sqr, Add, Mul, Sub, Dist, Div, Mod, Pow, Min, Max, Lt, Le, Gt, Ge, Ne, Eq, Set, In, NotIn, Not, And, Or, Xor, Iff, Imp, If}
use Rattle.lo_base.specs.Formed.{kinds_of}
use Rattle.lo_base.specs.Item.{made}
use Rattle.lo_base.proofs.Formed.{formed_join, keeps_behind}
use Rattle.lo_emit.specs.declared.term.Term.{Term}
use Rattle.lo_emit.specs.declared.term.Term.TheVariants.{Int, Truth, Var}
use Rattle.lo_emit.specs.Emitted.{Out, Outs, truth_of_one, truth_of_two, truth_of_list, standing}
use Rattle.lo_rules.specs.Formed.{IsInteger, IsLogic, AreIntegerTerms, AreLogicTerms, Makes, MakesAll}
use Rattle.lo_rules.proofs.Making.{integer_more, integers_more, logic_more, logics_more, small_zero, makes_eq, makes_ne, makes_le, makes_lt, makes_iff, makes_imp, makes_xor, makes_not, makes_and, makes_or, makes_among}
use Rattle.lo_rules.proofs.MakingLoops.{kinds_behind, kinds_in_a_row, logics_stay, makes_standing, makes_behind, makes_behind_all}
use Rattle.lo_terms.specs.declared.term.Operand.{Operand}
use Rattle.lo_terms.specs.Rules.{terms_of, term_at, equalities, all_equal, equal, comparisons, integer_term, written_member, some_equal, member_among, member, no_member, parity, parity_of, truth_node}
use Rattle.lo_formed.proofs.Numbers.{Inputs, integer_at, logic_at, makes_then}

-- the integers of integer terms are small
pub small_terms : (bs : List Bool) (ts : List Term) → AreIntegerTerms bs ts → AllByRecursion (λ z. IsSmall (exactly z)) (map integer_term ts)
small_terms bs [] h = tt
small_terms bs (Int z ∷ ts) h = (h.0, small_terms bs ts h.1)
small_terms bs (Truth t ∷ ts) h = absurd h.0
small_terms bs (Var v ∷ ts) h = (small_zero, small_terms bs ts h.1)

one_more : (bs : List Bool) (c : Out) (es : Outs) → Makes IsLogic bs c → MakesAll IsLogic (bs ++ kinds_of c.items) es → MakesAll IsLogic bs (record { items = c.items ++ es.items; terms = c.term ∷ es.terms })
one_more bs c es m rest =
    let cs : List Bool = bs ++ kinds_of c.items in
    let row : cs ++ kinds_of es.items ≡ bs ++ kinds_of (c.items ++ es.items) = kinds_in_a_row bs c.items es.items in
    record {
      formed = formed_join bs c.items es.items m.formed rest.formed;
      terms = (subst (λ (ks : List Bool). IsLogic ks c.term) row (logic_more cs (cs ++ kinds_of es.items) (keeps_behind cs (kinds_of es.items)) c.term m.term), subst (λ (ks : List Bool). AllByRecursion (IsLogic ks) es.terms) row rest.terms);
    }

equalities_make : (bs : List Bool) (n : ℕ) → length bs ≡ n → (x : Term) (ys : List Term) → IsInteger bs x → AreIntegerTerms bs ys → MakesAll IsLogic bs (equalities n x ys)
equalities_make bs n here x [] h g = record { formed = tt; terms = tt }
equalities_make bs n here x (y ∷ ys) h g =
    let c : Out = truth_of_two n IntEqReif x y in
    let cs : List Bool = bs ++ kinds_of c.items in
    one_more bs c (equalities (n + 1) y ys) (makes_eq bs n here x y h g.0)
    (equalities_make cs (n + 1) (kinds_behind bs n c.items here) y ys (integer_more bs cs (keeps_behind bs (kinds_of c.items)) y g.0) (integers_more bs cs (keeps_behind bs (kinds_of c.items)) ys g.1))

comparisons_make : (bs : List Bool) (n : ℕ) → length bs ≡ n → (x : Term) (ms : List Term) → IsInteger bs x → AreIntegerTerms bs ms → MakesAll IsLogic bs (comparisons n x ms)
comparisons_make bs n here x [] h g = record { formed = tt; terms = tt }
comparisons_make bs n here x (m ∷ ms) h g =
    let c : Out = truth_of_two n IntEqReif x m in
    let cs : List Bool = bs ++ kinds_of c.items in
    one_more bs c (comparisons (n + 1) x ms) (makes_eq bs n here x m h g.0)
    (comparisons_make cs (n + 1) (kinds_behind bs n c.items here) x ms (integer_more bs cs (keeps_behind bs (kinds_of c.items)) x h) (integers_more bs cs (keeps_behind bs (kinds_of c.items)) ms g.1))

parity_makes : (bs : List Bool) (n : ℕ) → length bs ≡ n → (x : Term) (ts : List Term) → IsLogic bs x → AreLogicTerms bs ts → Makes IsLogic bs (parity n x ts)
parity_makes bs n here x [] h g = makes_standing IsLogic logics_stay bs x h
parity_makes bs n here x (t ∷ ts) h g =
    let c : Out = truth_of_two n BoolXor x t in
    let cs : List Bool = bs ++ kinds_of c.items in
    let first = makes_xor bs n here x t h g.0 in
    makes_then IsLogic bs c.items (parity (n + 1) (Var n) ts) first.formed
    (parity_makes cs (n + 1) (kinds_behind bs n c.items here) (Var n) ts first.term (logics_more bs cs (keeps_behind bs (kinds_of c.items)) ts g.1))

module _ (bs : List Bool) where
  pub either_makes : (IsKind : List Bool → Term → Type 0) (t : Bool) (c d : Out) → Makes IsKind bs c → Makes IsKind bs d → Makes IsKind bs (if t then c else d)
  either_makes IsKind true c d h g = h
  either_makes IsKind false c d h g = g

  first_integer : (x : Term) (ys : List Term) → IsInteger bs x → AreIntegerTerms bs ys → IsInteger bs (slice_index_or ys 0 x)
  first_integer x [] h g = h
  first_integer x (y ∷ ys) h g = g.0

  module _ (n : ℕ) (here : length bs ≡ n) where
    truth_stands : (t : Bool) → Makes IsLogic bs (standing (Truth t))
    truth_stands t = makes_standing IsLogic logics_stay bs (Truth t) tt

    all_equal_makes : (x : Term) (ys : List Term) → IsInteger bs x → AreIntegerTerms bs ys → Makes IsLogic bs (all_equal n x ys)
    all_equal_makes x ys h g =
        let c : Outs = equalities n x ys in
        let first = equalities_make bs n here x ys h g in
        makes_behind_all IsLogic IsLogic bs n c (λ k ts. truth_of_list k ArrayBoolAnd ts) first (makes_and (bs ++ kinds_of c.items) (n + made c.items) (kinds_behind bs n c.items here) c.terms first.terms)

    equal_makes : (ts : List Term) → AreIntegerTerms bs ts → Makes IsLogic bs (equal n ts)
    equal_makes [] h = truth_stands true
    equal_makes (x ∷ ys) h =
        let y : Term = slice_index_or ys 0 x in
        either_makes IsLogic (length ys == 1) (truth_of_two n IntEqReif x y) (all_equal n x ys) (makes_eq bs n here x y h.0 (first_integer x ys h.0 h.1)) (all_equal_makes x ys h.0 h.1)

    pub some_equal_makes : (x : Term) (ms : List Term) → IsInteger bs x → AreIntegerTerms bs ms → Makes IsLogic bs (some_equal n x ms)
    some_equal_makes x ms h g =
        let c : Outs = comparisons n x ms in
        let first = comparisons_make bs n here x ms h g in
        makes_behind_all IsLogic IsLogic bs n c (λ k ts. truth_of_list k ArrayBoolOr ts) first (makes_or (bs ++ kinds_of c.items) (n + made c.items) (kinds_behind bs n c.items here) c.terms first.terms)

    written_makes : (x : Term) (zs : List ℤ) → IsInteger bs x → AllByRecursion (λ z. IsSmall (exactly z)) zs → Makes IsLogic bs (written_member n x zs)
    written_makes x [] h g = truth_stands false
    written_makes x (z ∷ zs) h g = makes_among bs n here x (z ∷ zs) h g

    among_makes : (written : Bool) (x : Term) (ms : List Term) → IsInteger bs x → AreIntegerTerms bs ms → Makes IsLogic bs (member_among written n x ms)
    among_makes true x ms h g = written_makes x (map integer_term ms) h (small_terms bs ms g)
    among_makes false x ms h g = some_equal_makes x ms h g

    member_makes : (written : Bool) (ts : List Term) → AreIntegerTerms bs ts → Makes IsLogic bs (member written n ts)
    member_makes written [] h = truth_stands false
    member_makes written (x ∷ ms) h = among_makes written x ms h.0 h.1

    no_member_makes : (written : Bool) (ts : List Term) → AreIntegerTerms bs ts → Makes IsLogic bs (no_member written n ts)
    no_member_makes written ts h =
        let c : Out = member written n ts in
        let first = member_makes written ts h in
        makes_behind IsLogic IsLogic bs n c (λ k t. truth_of_one k BoolNot t) first (makes_not (bs ++ kinds_of c.items) (n + made c.items) (kinds_behind bs n c.items here) c.term first.term)

    parity_of_makes : (ts : List Term) → AreLogicTerms bs ts → Makes IsLogic bs (parity_of n ts)
    parity_of_makes [] h = truth_stands false
    parity_of_makes (t ∷ ts) h = parity_makes bs n here t ts h.0 h.1

    module _ (written : Bool) (os : List Operand) where
      pub truth_makes : (op : Op) → Inputs op bs os → Makes IsLogic bs (truth_node op written n os)
      truth_makes Neg h = truth_stands false
      truth_makes Abs h = truth_stands false
      truth_makes Sqr h = truth_stands false
      truth_makes Add h = truth_stands false
      truth_makes Mul h = truth_stands false
      truth_makes Sub h = truth_stands false
      truth_makes Dist h = truth_stands false
      truth_makes Div h = truth_stands false
      truth_makes Mod h = truth_stands false
      truth_makes Pow h = truth_stands false
      truth_makes Min h = truth_stands false
      truth_makes Max h = truth_stands false
      truth_makes Lt h = makes_lt bs n here (term_at os 0) (term_at os 1) (integer_at bs os 0 h) (integer_at bs os 1 h)
      truth_makes Le h = makes_le bs n here (term_at os 0) (term_at os 1) (integer_at bs os 0 h) (integer_at bs os 1 h)
      truth_makes Gt h = makes_lt bs n here (term_at os 1) (term_at os 0) (integer_at bs os 1 h) (integer_at bs os 0 h)
      truth_makes Ge h = makes_le bs n here (term_at os 1) (term_at os 0) (integer_at bs os 1 h) (integer_at bs os 0 h)
      truth_makes Ne h = makes_ne bs n here (term_at os 0) (term_at os 1) (integer_at bs os 0 h) (integer_at bs os 1 h)
      truth_makes Eq h = equal_makes (terms_of os) h
      truth_makes Set h = truth_stands false
      truth_makes In h = member_makes written (terms_of os) h
      truth_makes NotIn h = no_member_makes written (terms_of os) h
      truth_makes Not h = makes_not bs n here (term_at os 0) (logic_at bs os 0 (omega (arith, h.1)) h.0)
      truth_makes And h = makes_and bs n here (terms_of os) h
      truth_makes Or h = makes_or bs n here (terms_of os) h
      truth_makes Xor h = parity_of_makes (terms_of os) h
      truth_makes Iff h = makes_iff bs n here (term_at os 0) (term_at os 1) (logic_at bs os 0 (omega (arith, h.1)) h.0) (logic_at bs os 1 (omega (arith, h.1)) h.0)
      truth_makes Imp h = makes_imp bs n here (term_at os 0) (term_at os 1) (logic_at bs os 0 (omega (arith, h.1)) h.0) (logic_at bs os 1 (omega (arith, h.1)) h.0)
      truth_makes If h = truth_stands false
