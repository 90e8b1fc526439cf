-- What each operator is lowered to is well formed, in each mode; literals and variables too.
use Rattle.std.proofs.Common.{◌≡◌, ℕ, zero, suc, ◌+◌, ℤ, pos, negsuc, Bool, true, false, List, [], ◌∷◌, ◌++◌, length, map, arith, slice_get, Some}
use Rattle.std.specs.List.{AllByRecursion}
use Rattle.xf_num.specs.Span.{Bounds}
use Rattle.fz_model.specs.Calls.{call_of}
use Rattle.fz_model.specs.declared.builtin.Builtin.TheVariants.{IntEq, IntNe, IntLe, IntLt, Bool2Int}
use Rattle.fz_model.specs.Limits.{IsSmall, exactly}
use Rattle.fz_model.specs.Sound.{IsRange, IsCall}
use Rattle.xs_model.specs.declared.expr.Op.{Op}
use Rattle.xs_model.specs.declared.expr.Op.TheVariants.{Neg, Abs, Sqr, Add, Mul, Sub, Dist, Div, Mod, Pow, Min, Max, Lt, Le, Gt, Ge, Ne, Eq, Set, In, NotIn, Not, And, Or, Xor, Iff, Imp, If}
use Rattle.xs_model.specs.Bounds.{truths}
use Rattle.lo_base.specs.Formed.{kinds_of, AreFormed}
use Rattle.lo_base.specs.Item.{made}
use Rattle.lo_emit.specs.declared.term.Term.{Term}
use Rattle.lo_emit.specs.declared.term.Term.TheVariants.{Int, Truth, Var}
use Rattle.lo_emit.specs.Emitted.{Out, arg_of, integer_of_one, truth_of_number}
use Rattle.lo_rules.specs.Formed.{IsInteger, IsLogic, AreIntegerTerms, AreLogicTerms, Makes}
use Rattle.lo_rules.proofs.Making.{integer_single, formed_clause, formed_set, makes_counted, makes_tested}
use Rattle.lo_rules.proofs.MakingLoops.{kinds_behind, integers_stay, logics_stay, makes_standing, makes_behind}
use Rattle.lo_terms.specs.declared.term.Mode.{Mode}
use Rattle.lo_terms.specs.declared.term.Mode.TheVariants.{Number, Logic, Stated}
use Rattle.lo_terms.specs.declared.term.Operand.{Operand}
use Rattle.lo_terms.specs.Rules.{terms_of, term_at, integer_term, some_equal, number_node, truth_node, gives_truth, counted, tested, as_number, as_truth, posting, posting_clause, stated_equalities, stated_equal, asserted, stated_written, stated_member_among, stated_member, stated_node, node, literal_truth, literal, variable}
use Rattle.lo_formed.specs.Laws.{IsInMode}
use Rattle.lo_formed.proofs.Numbers.{AreSpansOrdered, Inputs, integer_at, logic_at, number_makes}
use Rattle.lo_formed.proofs.Truths.{small_terms, either_makes, some_equal_makes, truth_makes}

module _ (bs : List Bool) where
  -- calls that state

  clause_makes : (ps ns : List Term) → AreLogicTerms bs ps → AreLogicTerms bs ns → Makes IsLogic bs (posting_clause ps ns)
  clause_makes ps ns h g = record { formed = (formed_clause bs ps ns h g, tt); term = tt }

  less_makes : (x y : Term) → IsInteger bs x → IsInteger bs y → Makes IsLogic bs (posting IntLt x y)
  less_makes x y h g = record { formed = (record { kinds = (integer_single bs x h, (integer_single bs y g, tt)); lengths = tt }, tt); term = tt }

  most_makes : (x y : Term) → IsInteger bs x → IsInteger bs y → Makes IsLogic bs (posting IntLe x y)
  most_makes x y h g = record { formed = (record { kinds = (integer_single bs x h, (integer_single bs y g, tt)); lengths = tt }, tt); term = tt }

  other_makes : (x y : Term) → IsInteger bs x → IsInteger bs y → Makes IsLogic bs (posting IntNe x y)
  other_makes x y h g = record { formed = (record { kinds = (integer_single bs x h, (integer_single bs y g, tt)); lengths = tt }, tt); term = tt }

  equal_call : (x y : Term) → IsInteger bs x → IsInteger bs y → IsCall bs (call_of IntEq (arg_of x ∷ arg_of y ∷ []))
  equal_call x y h g = record { kinds = (integer_single bs x h, (integer_single bs y g, tt)); lengths = tt }

  equalities_formed : (x : Term) (ys : List Term) → IsInteger bs x → AreIntegerTerms bs ys → AreFormed bs (stated_equalities x ys)
  equalities_formed x [] h g = tt
  equalities_formed x (y ∷ ys) h g = (equal_call x y h g.0, equalities_formed y ys g.0 g.1)

  equal_states : (ts : List Term) → AreIntegerTerms bs ts → Makes IsLogic bs (stated_equal ts)
  equal_states [] h = record { formed = tt; term = tt }
  equal_states (x ∷ ys) h = record { formed = equalities_formed x ys h.0 h.1; term = tt }

  written_states : (x : Term) (zs : List ℤ) → IsInteger bs x → AllByRecursion (λ z. IsSmall (exactly z)) zs → Makes IsLogic bs (stated_written x zs)
  written_states x [] h g = clause_makes (Truth false ∷ []) [] (tt, tt) tt
  written_states x (z ∷ zs) h g = record { formed = (formed_set bs x (z ∷ zs) h g, tt); term = tt }

  module _ (n : ℕ) (here : length bs ≡ n) where
    pub asserted_makes : (c : Out) → Makes IsLogic bs c → Makes IsLogic bs (asserted n c)
    asserted_makes c m =
        makes_behind IsLogic IsLogic bs n c (λ k t. posting_clause (t ∷ []) []) m (record { formed = (formed_clause (bs ++ kinds_of c.items) (c.term ∷ []) [] (m.term, tt) tt, tt); term = tt })

    counted_makes : (c : Out) → Makes IsLogic bs c → Makes IsInteger bs (counted n c)
    counted_makes c m = makes_behind IsLogic IsInteger bs n c (λ k t. integer_of_one k truths Bool2Int t) m (makes_counted (bs ++ kinds_of c.items) (n + made c.items) (kinds_behind bs n c.items here) c.term m.term)

    tested_makes : (c : Out) → Makes IsInteger bs c → Makes IsLogic bs (tested n c)
    tested_makes c m = makes_behind IsInteger IsLogic bs n c truth_of_number m (makes_tested (bs ++ kinds_of c.items) (n + made c.items) (kinds_behind bs n c.items here) c.term m.term)

    among_states : (written : Bool) (x : Term) (ms : List Term) → IsInteger bs x → AreIntegerTerms bs ms → Makes IsLogic bs (stated_member_among written n x ms)
    among_states true x ms h g = written_states x (map integer_term ms) h (small_terms bs ms g)
    among_states false x ms h g = asserted_makes (some_equal n x ms) (some_equal_makes bs n here x ms h g)

    member_states : (written : Bool) (ts : List Term) → AreIntegerTerms bs ts → Makes IsLogic bs (stated_member written n ts)
    member_states written [] h = clause_makes (Truth false ∷ []) [] (tt, tt) tt
    member_states written (x ∷ ms) h = among_states written x ms h.0 h.1

    -- literals and variables

    literal_truth_makes : (z : ℤ) → IsSmall (exactly z) → Makes IsLogic bs (literal_truth n z)
    literal_truth_makes (pos zero) s = makes_standing IsLogic logics_stay bs (Truth false) tt
    literal_truth_makes (pos (suc zero)) s = makes_standing IsLogic logics_stay bs (Truth true) tt
    literal_truth_makes (pos (suc (suc k))) s = makes_tested bs n here (Int (pos (suc (suc k)))) s
    literal_truth_makes (negsuc k) s = makes_tested bs n here (Int (negsuc k)) s

    pub literal_makes : (mode : Mode) (z : ℤ) → IsSmall (exactly z) → Makes (IsInMode mode) bs (literal mode n z)
    literal_makes Number z s = makes_standing IsInteger integers_stay bs (Int z) s
    literal_makes Logic z s = literal_truth_makes z s
    literal_makes Stated z s = asserted_makes (literal_truth n z) (literal_truth_makes z s)

    pub variable_makes : (mode : Mode) (v : ℕ) → slice_get bs v ≡ Some false → Makes (IsInMode mode) bs (variable mode n v)
    variable_makes Number v h = makes_standing IsInteger integers_stay bs (Var v) h
    variable_makes Logic v h = makes_tested bs n here (Var v) h
    variable_makes Stated v h = asserted_makes (truth_of_number n (Var v)) (makes_tested bs n here (Var v) h)

    module _ (w : Bounds) (r : IsRange w) (written : Bool) (os : List Operand) (spans : AreSpansOrdered os) where
      number_is : (op : Op) → Inputs op bs os → Makes IsInteger bs (as_number op w written n os)
      number_is op h =
          either_makes bs IsInteger (gives_truth op) (counted n (truth_node op written n os)) (number_node op w n os) (counted_makes (truth_node op written n os) (truth_makes bs n here written os op h)) (number_makes bs n here w r os spans op h)

      truth_is : (op : Op) → Inputs op bs os → Makes IsLogic bs (as_truth op w written n os)
      truth_is op h =
          either_makes bs IsLogic (gives_truth op) (truth_node op written n os) (tested n (number_node op w n os)) (truth_makes bs n here written os op h) (tested_makes (number_node op w n os) (number_makes bs n here w r os spans op h))

      stated_is : (op : Op) → Inputs op bs os → Makes IsLogic bs (stated_node op w written n os)
      stated_is Neg h = asserted_makes (as_truth Neg w written n os) (truth_is Neg h)
      stated_is Abs h = asserted_makes (as_truth Abs w written n os) (truth_is Abs h)
      stated_is Sqr h = asserted_makes (as_truth Sqr w written n os) (truth_is Sqr h)
      stated_is Add h = asserted_makes (as_truth Add w written n os) (truth_is Add h)
      stated_is Mul h = asserted_makes (as_truth Mul w written n os) (truth_is Mul h)
      stated_is Sub h = asserted_makes (as_truth Sub w written n os) (truth_is Sub h)
      stated_is Dist h = asserted_makes (as_truth Dist w written n os) (truth_is Dist h)
      stated_is Div h = asserted_makes (as_truth Div w written n os) (truth_is Div h)
      stated_is Mod h = asserted_makes (as_truth Mod w written n os) (truth_is Mod h)
      stated_is Pow h = asserted_makes (as_truth Pow w written n os) (truth_is Pow h)
      stated_is Min h = asserted_makes (as_truth Min w written n os) (truth_is Min h)
      stated_is Max h = asserted_makes (as_truth Max w written n os) (truth_is Max h)
      stated_is Lt h = less_makes (term_at os 0) (term_at os 1) (integer_at bs os 0 h) (integer_at bs os 1 h)
      stated_is Le h = most_makes (term_at os 0) (term_at os 1) (integer_at bs os 0 h) (integer_at bs os 1 h)
      stated_is Gt h = less_makes (term_at os 1) (term_at os 0) (integer_at bs os 1 h) (integer_at bs os 0 h)
      stated_is Ge h = most_makes (term_at os 1) (term_at os 0) (integer_at bs os 1 h) (integer_at bs os 0 h)
      stated_is Ne h = other_makes (term_at os 0) (term_at os 1) (integer_at bs os 0 h) (integer_at bs os 1 h)
      stated_is Eq h = equal_states (terms_of os) h
      stated_is Set h = asserted_makes (as_truth Set w written n os) (truth_is Set h)
      stated_is In h = member_states written (terms_of os) h
      stated_is NotIn h = asserted_makes (as_truth NotIn w written n os) (truth_is NotIn h)
      stated_is Not h = clause_makes [] (term_at os 0 ∷ []) tt (logic_at bs os 0 (omega (arith, h.1)) h.0, tt)
      stated_is And h = record { formed = tt; term = tt }
      stated_is Or h = clause_makes (terms_of os) [] h tt
      stated_is Xor h = asserted_makes (as_truth Xor w written n os) (truth_is Xor h)
      stated_is Iff h = asserted_makes (as_truth Iff w written n os) (truth_is Iff h)
      stated_is Imp h = clause_makes (term_at os 1 ∷ []) (term_at os 0 ∷ []) (logic_at bs os 1 (omega (arith, h.1)) h.0, tt) (logic_at bs os 0 (omega (arith, h.1)) h.0, tt)
      stated_is If h = asserted_makes (as_truth If w written n os) (truth_is If h)

      -- an operator behind its operands, in the mode that is asked
      pub node_makes : (op : Op) (mode : Mode) → Inputs op bs os → Makes (IsInMode mode) bs (node op mode w written n os)
      node_makes op Number h = number_is op h
      node_makes op Logic h = truth_is op h
      node_makes op Stated h = stated_is op h
