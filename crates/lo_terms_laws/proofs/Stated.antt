-- What each operator is lowered to states that its value is 1, and what literals and variables are lowered to.
use Rattle.std.proofs.Common.{◌≡◌, ◌≢◌, inl, inr, ℕ, zero, suc, ◌+◌, ◌*◌, ◌<◌, ◌≤◌, ℤ, pos, negsuc, ◌-ℤ◌, Bool, true, false, not, ◌&&◌, ◌||◌, List, [], ◌∷◌, ◌++◌, length, map, drop, refl, ap, ap₂, sym, ◌∙◌, subst, arith, true≢false}
use Rattle.std.specs.Prelude.{int_le, int_lt}
use Rattle.std.specs.List.{AllByRecursion, list_any, list_all}
use Rattle.std.specs.Ordering.{int_eq}
use Rattle.std.proofs.lemmas.Int.{ints}
use Rattle.xf_num.specs.Span.{Bounds}
use Rattle.fz_model.specs.Fixing.{IsBit}
use Rattle.fz_model.specs.Meaning.{truth, is_one, is_zero, clause as clause_of}
use Rattle.fz_model.proofs.Calls.{number-Int, number-Bool, number-Var, equal as equal_is, equal_met, unequal, unequal_met}
use Rattle.xs_model.specs.declared.expr.Op.{Op}
use Rattle.xs_model.specs.declared.expr.Op.TheVariants.{Neg, Abs, Sqr, Add, Mul, Sub, Dist, Div, Mod, Pow, Min, Max, Lt, Le, Gt, Ge, Ne, Eq, Set, In, NotIn, Not, And, Or, Xor, Iff, Imp, If}
use Rattle.xs_model.specs.declared.term.Cond.{Cond}
use Rattle.xs_model.specs.declared.term.Cond.TheVariants as cond
use Rattle.xs_model.specs.Conditions.{Meets}
use Rattle.xs_model.specs.Value.{at, apply, is_true, all_equal}
use Rattle.xs_model.specs.Shape.{is_set_operator}
use Rattle.lo_base.specs.Item.{Item, Posted, made}
use Rattle.lo_emit.specs.Compare.{Related, compare_call}
use Rattle.lo_emit.specs.declared.compare.Relation.{Relation}
use Rattle.lo_emit.specs.declared.compare.Relation.TheVariants as relation
use Rattle.lo_emit.specs.declared.term.Term.{Term}
use Rattle.lo_emit.specs.declared.term.Term.TheVariants.{Int, Truth, Var}
use Rattle.lo_emit.specs.Emitted.{Out, clause, truth_of_number}
use Rattle.lo_rules.specs.Rule.{num, Before, AllBefore, Always, Rule, Yields}
use Rattle.lo_rules.proofs.Rules.{rule_as}
use Rattle.lo_rules.proofs.Atoms.{rule_none}
use Rattle.lo_rules.proofs.Chains.{states_behind}
use Rattle.lo_rules.proofs.Conditions.{met_is, met_met, rule_condition}
use Rattle.lo_rules.proofs.Integers.{lt_is, lt_met, rule_compare}
use Rattle.lo_rules.proofs.Linear.{mapped_long}
use Rattle.lo_rules.proofs.Loops.{rules_both}
use Rattle.lo_rules.proofs.Terms.{before_more, all_before_more, rule_clause, yields_as, yields_standing, yields_tested}
use Rattle.lo_rules.proofs.Tests.{both_true, both_met, any_ones, bit_is, le_is, le_met, one_truth, truth_one}
use Rattle.lo_terms.specs.declared.term.Mode.TheVariants.{Number, Logic, Stated}
use Rattle.lo_terms.specs.declared.term.Operand.{Operand}
use Rattle.lo_terms.specs.Rules.{terms_of, term_at, integer_term, stated_equalities, stated_equal, asserted, stated_written, stated_member_among, stated_member, stated_node, as_truth, some_equal, literal_truth, literal, variable}
use Rattle.lo_terms_laws.proofs.Operands.{spans_of, nums, at_place, before_at, AllBits, all_bits, logic_is, bit_at}
use Rattle.lo_terms_laws.proofs.Nodes.{Input, worth_at, limit, yields_logic, one_bit}
use Rattle.lo_terms_laws.proofs.Truths.{IsWritten, all_written, integers_many, adjacent, all_adjacent, yields_some_equal}

-- in other words, with a greater size
pub states_as : (W D P Q : List ℤ → Type 0) (n : ℕ) (xs : List Item) (w u : ℕ) → w ≤ u → ((b : List ℤ) → D b → P b → Q b) → ((b : List ℤ) → D b → Q b → P b) → Rule W D n xs w Always P → Rule W D n xs u Always Q
states_as W D P Q n xs w u le said back r = rule_as W D D Always Always P Q n xs w u (λ b d. d) (λ b d g. tt) (λ b d g p. said b d p) (λ b x d g q. back b d q) le r

one_met : (t : Bool) → t ≡ true → truth t ≡ pos 1
one_met t e = ap truth e

without : (t : Bool) → (t || false) ≡ t
without true = refl
without false = refl

clause_of_one : (v : ℤ) → clause_of (v ∷ []) [] ≡ int_eq (pos 1) v
clause_of_one v = without (is_one v || false) ∙ without (is_one v)

-- a truth value that is stated
pub states_asserted : (W D : List ℤ → Type 0) (n : ℕ) (v : List ℤ → ℤ) (c : Out) (w u : ℕ) → w + 1 ≤ u → Yields W D n c w v → Rule W D n (asserted n c).items u Always (λ b. v b ≡ pos 1)
states_asserted W D n v c w u le r =
    let k : ℕ = n + made c.items in
    let E : List ℤ → Type 0 = λ b. D b × (num b c.term ≡ v b) in
    let P : List ℤ → Type 0 = λ b. v b ≡ pos 1 in
    let ys : List Item = Posted (clause (c.term ∷ []) []) ∷ [] in
    rule_as W D D (λ b. num b c.term ≡ v b) Always P P n (c.items ++ ys) (w + 1) u (λ b d. d) (λ b d g. tt) (λ b d g p. p) (λ b x d g p. p) le
    (states_behind W D n v P c ys w 1 r
    (states_as W E (λ b. clause_of (map (num b) (c.term ∷ [])) [] ≡ true) P k ys 1 1 (omega arith) (λ b e p. sym e.1 ∙ sym (equal_is (pos 1) (num b c.term) (sym (clause_of_one (num b c.term)) ∙ p)))
    (λ b e p. clause_of_one (num b c.term) ∙ equal_met (pos 1) (num b c.term) (sym (e.1 ∙ p))) (rule_clause W E k (c.term ∷ []) [] (r.before, tt) tt)))

-- a comparison that is stated
states_compared : (W D : List ℤ → Type 0) (n : ℕ) (r : Relation) (x y : Term) (t : ℤ → ℤ → Bool) (v : List ℤ → ℤ) (u : ℕ) → 2 ≤ u → ((p q : ℤ) → Related r p q → t p q ≡ true) → ((p q : ℤ) → t p q ≡ true → Related r p q)
    → ((b : List ℤ) → truth (t (num b x) (num b y)) ≡ v b) → Before n x → Before n y → Rule W D n (Posted (compare_call r x y) ∷ []) u Always (λ b. v b ≡ pos 1)
states_compared W D n r x y t v u le met is same hx hy =
    states_as W D (λ b. Related r (num b x) (num b y)) (λ b. v b ≡ pos 1) n (Posted (compare_call r x y) ∷ []) 2 u le (λ b d p. sym (same b) ∙ one_met (t (num b x) (num b y)) (met (num b x) (num b y) p))
    (λ b d q. is (num b x) (num b y) (truth_one (t (num b x) (num b y)) (same b ∙ q))) (rule_compare W D n r x y hx hy)

-- false is never so
states_false : (W D : List ℤ → Type 0) (n : ℕ) (u : ℕ) → 1 ≤ u → Rule W D n (Posted (clause (Truth false ∷ []) []) ∷ []) u Always (λ b. truth false ≡ pos 1)
states_false W D n u le =
    let is : (b : List ℤ) → clause_of (map (num b) (Truth false ∷ [])) [] ≡ false = λ b. ap (λ (z : ℤ). clause_of (z ∷ []) []) (number-Bool b false) in
    states_as W D (λ b. clause_of (map (num b) (Truth false ∷ [])) [] ≡ true) (λ b. truth false ≡ pos 1) n (Posted (clause (Truth false ∷ []) []) ∷ []) 1 u le (λ b d p. absurd (true≢false (sym p ∙ is b)))
    (λ b d q. absurd (true≢false (sym (truth_one false q)))) (rule_clause W D n (Truth false ∷ []) [] (tt, tt) tt)

-- each equals the one before it
states_equalities : (W D : List ℤ → Type 0) (n : ℕ) (x : Term) (ys : List Term) → Before n x → AllBefore n ys → Rule W D n (stated_equalities x ys) (2 * length ys) Always (λ b. list_all is_one (adjacent (num b x) (map (num b) ys)) ≡ true)
unfolding adjacent
states_equalities W D n x [] hx hys =
    states_as W D Always (λ b. list_all is_one (adjacent (num b x) (map (num b) [])) ≡ true) n [] 0 (2 * length {A = Term} []) (omega arith) (λ b d p. refl) (λ b d q. tt) (rule_none W D Always n 0 (λ b d. tt))
states_equalities W D n x (y ∷ ys) hx hys =
    let P : List ℤ → Type 0 = λ b. num b x ≡ num b y in
    let Q : List ℤ → Type 0 = λ b. list_all is_one (adjacent (num b y) (map (num b) ys)) ≡ true in
    let call : List Item = Posted (compare_call relation.Eq x y) ∷ [] in
    let k : ℕ = n + made call in
    let one : List ℤ → Bool = λ b. is_one (truth (int_eq (num b x) (num b y))) in
    let rest : List ℤ → Bool = λ b. list_all is_one (adjacent (num b y) (map (num b) ys)) in
    states_as W D (λ b. P b × Q b) (λ b. (one b && rest b) ≡ true) n (stated_equalities x (y ∷ ys)) (2 + 2 * length ys) (2 * length (y ∷ ys)) (omega arith)
    (λ b d p. both_met (one b) (rest b) (one_truth (int_eq (num b x) (num b y)) ∙ equal_met (num b x) (num b y) p.0) p.1)
    (λ b d q. let parts = both_true (one b) (rest b) q in (equal_is (num b x) (num b y) (sym (one_truth (int_eq (num b x) (num b y))) ∙ parts.0), parts.1))
    (rules_both W D P Q n call (stated_equalities y ys) 2 (2 * length ys) (rule_compare W D n relation.Eq x y hx hys.0)
    (states_equalities W D k y ys (before_more n k y (omega arith) hys.0) (all_before_more n k ys (omega arith) hys.1)))

states_equal : (W D : List ℤ → Type 0) (n : ℕ) (ts : List Term) → AllBefore n ts → Rule W D n (stated_equal ts).items (2 * length ts) Always (λ b. truth (all_equal (map (num b) ts)) ≡ pos 1)
states_equal W D n [] h =
    states_as W D Always (λ b. truth (all_equal (map (num b) [])) ≡ pos 1) n [] 0 (2 * length {A = Term} []) (omega arith) (λ b d p. refl) (λ b d q. tt) (rule_none W D Always n 0 (λ b d. tt))
states_equal W D n (x ∷ xs) h =
    let all : List ℤ → Bool = λ b. all_equal (num b x ∷ map (num b) xs) in
    states_as W D (λ b. list_all is_one (adjacent (num b x) (map (num b) xs)) ≡ true) (λ b. truth (all b) ≡ pos 1) n (stated_equalities x xs) (2 * length xs) (2 * length (x ∷ xs)) (omega arith)
    (λ b d p. one_met (all b) (sym (all_adjacent (num b x) (map (num b) xs)) ∙ p)) (λ b d q. all_adjacent (num b x) (map (num b) xs) ∙ truth_one (all b) q) (states_equalities W D n x xs h.0 h.1)

states_written : (W D : List ℤ → Type 0) (n : ℕ) (x : Term) (zs : List ℤ) → Before n x → Rule W D n (stated_written x zs).items (6 + length zs) Always (λ b. truth (list_any (int_eq (num b x)) zs) ≡ pos 1)
states_written W D n x [] hx = states_false W D n 6 (omega arith)
states_written W D n x (z ∷ zs) hx =
    let c : Cond = cond.InSet (z ∷ zs) in
    let t : List ℤ → Bool = λ b. list_any (int_eq (num b x)) (z ∷ zs) in
    states_as W D (λ b. Meets b c (num b x)) (λ b. truth (t b) ≡ pos 1) n (stated_written x (z ∷ zs)).items (6 + length (z ∷ zs)) (6 + length (z ∷ zs)) (omega arith) (λ b d p. one_met (t b) (met_met b c (num b x) p))
    (λ b d q. met_is b c (num b x) (truth_one (t b) q)) (rule_condition W D n x c hx tt)

states_member : (W D : List ℤ → Type 0) (n : ℕ) (written : Bool) (x : Term) (ms : List Term) → Before n x → AllBefore n ms → (written ≡ true → AllByRecursion IsWritten ms)
    → Rule W D n (stated_member_among written n x ms).items (5 * length ms + 6) Always (λ b. truth (list_any (int_eq (num b x)) (map (num b) ms)) ≡ pos 1)
states_member W D n true x ms hx hms literal =
    let zs : List ℤ = map integer_term ms in
    let same : (b : List ℤ) → zs ≡ map (num b) ms = λ b. all_written b ms (literal refl) in
    let P : List ℤ → List ℤ → Type 0 = λ b ys. truth (list_any (int_eq (num b x)) ys) ≡ pos 1 in
    states_as W D (λ b. P b zs) (λ b. P b (map (num b) ms)) n (stated_written x zs).items (6 + length zs) (5 * length ms + 6) (omega (arith, integers_many ms)) (λ b d p. subst (P b) (same b) p) (λ b d q. subst (P b) (sym (same b)) q)
    (states_written W D n x zs hx)
states_member W D n false x ms hx hms literal =
    states_asserted W D n (λ b. truth (list_any (int_eq (num b x)) (map (num b) ms))) (some_equal n x ms) (5 * length ms + 4) (5 * length ms + 6) (omega arith) (yields_some_equal W D n x ms hx hms)

-- clauses of truth values
not_clause : (u : ℤ) → clause_of [] (u ∷ []) ≡ int_eq (pos 0) u
not_clause u = without (is_zero u)

or_clause : (us : List ℤ) → clause_of us [] ≡ list_any is_true us
or_clause us = without (list_any is_one us) ∙ any_ones us

imp_truths : (s t : Bool) → clause_of (truth t ∷ []) (truth s ∷ []) ≡ int_le (truth s) (truth t)
imp_truths true true = refl
imp_truths true false = refl
imp_truths false true = refl
imp_truths false false = refl

imp_clause : (u v : ℤ) → IsBit u → IsBit v → clause_of (v ∷ []) (u ∷ []) ≡ int_le u v
imp_clause u v hu hv = ap₂ (λ (p q : ℤ). clause_of (q ∷ []) (p ∷ [])) (bit_is u hu) (bit_is v hv) ∙ imp_truths (is_true u) (is_true v) ∙ sym (ap₂ int_le (bit_is u hu) (bit_is v hv))

module _ (W D : List ℤ → Type 0) (n : ℕ) (w : Bounds) (written : Bool) (os : List Operand) where
  abbrev most : ℕ
  most = limit os + 4

  abbrev v : Op → List ℤ → ℤ
  v op b = worth_at op (nums b os)

  abbrev IsBitOf : Op → Type 0
  IsBitOf op = (b : List ℤ) → D b → IsBit (v op b)

  abbrev x : Term
  x = term_at os 0

  abbrev y : Term
  y = term_at os 1

  compared : (r : Relation) (op : Op) (t : ℤ → ℤ → Bool) → Input D n op w written os → ((p q : ℤ) → Related r p q → t p q ≡ true) → ((p q : ℤ) → t p q ≡ true → Related r p q)
      → ((b : List ℤ) → truth (t (at (nums b os) 0) (at (nums b os) 1)) ≡ v op b) → Rule W D n (Posted (compare_call r x y) ∷ []) most Always (λ b. v op b ≡ pos 1)
  compared r op t i met is same =
      states_compared W D n r x y t (v op) most (omega arith) met is (λ b. ap₂ (λ (p q : ℤ). truth (t p q)) (at_place b os 0) (at_place b os 1) ∙ same b) (before_at n os 0 i.before) (before_at n os 1 i.before)

  turned : (r : Relation) (op : Op) (t : ℤ → ℤ → Bool) → Input D n op w written os → ((p q : ℤ) → Related r p q → t p q ≡ true) → ((p q : ℤ) → t p q ≡ true → Related r p q)
      → ((b : List ℤ) → truth (t (at (nums b os) 1) (at (nums b os) 0)) ≡ v op b) → Rule W D n (Posted (compare_call r y x) ∷ []) most Always (λ b. v op b ≡ pos 1)
  turned r op t i met is same =
      states_compared W D n r y x t (v op) most (omega arith) met is (λ b. ap₂ (λ (p q : ℤ). truth (t p q)) (at_place b os 1) (at_place b os 0) ∙ same b) (before_at n os 1 i.before) (before_at n os 0 i.before)

  pub states_node : (op : Op) → Input D n op w written os → is_set_operator op ≡ false → op ≢ And → IsBitOf op → Rule W D n (stated_node op w written n os).items most Always (λ b. v op b ≡ pos 1)
  states_node Lt i s other bit = compared relation.Lt Lt int_lt i (λ p q h. lt_met p q h) (λ p q h. lt_is p q h) (λ b. refl)
  states_node Le i s other bit = compared relation.Le Le int_le i (λ p q h. le_met p q h) (λ p q h. le_is p q h) (λ b. refl)
  states_node Gt i s other bit = turned relation.Lt Gt int_lt i (λ p q h. lt_met p q h) (λ p q h. lt_is p q h) (λ b. refl)
  states_node Ge i s other bit = turned relation.Le Ge int_le i (λ p q h. le_met p q h) (λ p q h. le_is p q h) (λ b. refl)
  states_node Ne i s other bit = compared relation.Ne Ne (λ p q. not (int_eq p q)) i (λ p q h. unequal_met p q h) (λ p q h. unequal p q h) (λ b. refl)
  states_node Eq i s other bit =
      states_as W D (λ b. v Eq b ≡ pos 1) (λ b. v Eq b ≡ pos 1) n (stated_equal (terms_of os)).items (2 * length (terms_of os)) most (omega (arith, mapped_long (λ (o : Operand). o.term) os)) (λ b d p. p) (λ b d p. p)
      (states_equal W D n (terms_of os) i.before)
  states_node In i s other bit = among os i.before i.literal
    where
      among : (ps : List Operand) → AllBefore n (terms_of ps) → (written ≡ true → AllByRecursion IsWritten (drop 1 (terms_of ps))) → Rule W D n (stated_member written n (terms_of ps)).items (limit ps + 4) Always (λ b. worth_at In (nums b ps) ≡ pos 1)
      among [] before literal = states_false W D n (limit [] + 4) (omega arith)
      among (p ∷ ps) before literal =
          let P : List ℤ → Type 0 = λ b. worth_at In (nums b (p ∷ ps)) ≡ pos 1 in
          states_as W D P P n (stated_member written n (terms_of (p ∷ ps))).items (5 * length (terms_of ps) + 6) (limit (p ∷ ps) + 4) (omega (arith, mapped_long (λ (o : Operand). o.term) ps)) (λ b d q. q) (λ b d q. q)
          (states_member W D n written p.term (terms_of ps) before.0 before.1 literal)
  states_node Not i s other bit =
      let is : (b : List ℤ) → clause_of [] (map (num b) (x ∷ [])) ≡ int_eq (pos 0) (at (nums b os) 0) = λ b. not_clause (num b x) ∙ ap (int_eq (pos 0)) (at_place b os 0) in
      states_as W D (λ b. clause_of [] (map (num b) (x ∷ [])) ≡ true) (λ b. v Not b ≡ pos 1) n (Posted (clause [] (x ∷ [])) ∷ []) 1 most (omega arith)
      (λ b d p. let e = equal_is (pos 0) (at (nums b os) 0) (sym (is b) ∙ p) in omega (arith, ints, e)) (λ b d q. is b ∙ equal_met (pos 0) (at (nums b os) 0) (omega (arith, ints, q)))
      (rule_clause W D n [] (x ∷ []) tt (before_at n os 0 i.before, tt))
  states_node And i s other bit = absurd (other refl)
  states_node Or i s other bit =
      let t : List ℤ → Bool = λ b. list_any is_true (nums b os) in
      states_as W D (λ b. clause_of (nums b os) [] ≡ true) (λ b. v Or b ≡ pos 1) n (Posted (clause (terms_of os) []) ∷ []) (length (terms_of os) + 0) most (omega (arith, mapped_long (λ (o : Operand). o.term) os))
      (λ b d p. one_met (t b) (sym (or_clause (nums b os)) ∙ p)) (λ b d q. or_clause (nums b os) ∙ truth_one (t b) q) (rule_clause W D n (terms_of os) [] i.before tt)
  states_node Imp i s other bit =
      let bits : (b : List ℤ) → D b → AllBits (nums b os) = λ b d. all_bits (spans_of os) (nums b os) (i.spanned.held b d) (logic_is (spans_of os) w i.spanned.own) in
      let is : (b : List ℤ) → D b → clause_of (map (num b) (y ∷ [])) (map (num b) (x ∷ [])) ≡ int_le (at (nums b os) 0) (at (nums b os) 1) =
      λ b d. ap₂ (λ (p q : ℤ). clause_of (p ∷ []) (q ∷ [])) (at_place b os 1) (at_place b os 0) ∙ imp_clause (at (nums b os) 0) (at (nums b os) 1) (bit_at (nums b os) 0 (bits b d)) (bit_at (nums b os) 1 (bits b d)) in
      let t : List ℤ → Bool = λ b. int_le (at (nums b os) 0) (at (nums b os) 1) in
      states_as W D (λ b. clause_of (map (num b) (y ∷ [])) (map (num b) (x ∷ [])) ≡ true) (λ b. v Imp b ≡ pos 1) n (Posted (clause (y ∷ []) (x ∷ [])) ∷ []) 2 most (omega arith) (λ b d p. one_met (t b) (sym (is b d) ∙ p))
      (λ b d q. is b d ∙ truth_one (t b) q) (rule_clause W D n (y ∷ []) (x ∷ []) (before_at n os 1 i.before, tt) (before_at n os 0 i.before, tt))
  states_node Set i s other bit = absurd (true≢false s)
  states_node op i s other bit = states_asserted W D n (v op) (as_truth op w written n os) (limit os + 3) most (omega arith) (yields_logic W D n w written os op i s bit)

-- literals and variables

yields_literal_truth : (W D : List ℤ → Type 0) (n : ℕ) (z : ℤ) → IsBit z → Yields W D n (literal_truth n z) 3 (λ b. z)
yields_literal_truth W D n (pos zero) bit = yields_as W D D n (literal_truth n (pos 0)) 0 3 (λ b. pos 0) (λ b. pos 0) (λ b d. d) (λ b d. refl) (omega arith) (yields_standing W D n (Truth false) (λ b. pos 0) tt (λ b d. number-Bool b false))
yields_literal_truth W D n (pos (suc zero)) bit = yields_as W D D n (literal_truth n (pos 1)) 0 3 (λ b. pos 1) (λ b. pos 1) (λ b d. d) (λ b d. refl) (omega arith) (yields_standing W D n (Truth true) (λ b. pos 1) tt (λ b d. number-Bool b true))
yields_literal_truth W D n (pos (suc (suc k))) bit = elim bit [ inl e ↦ absurd (omega (arith, ints, e)) | inr e ↦ absurd (omega (arith, ints, e)) ]
yields_literal_truth W D n (negsuc k) bit = elim bit [ inl e ↦ absurd (omega (arith, ints, e)) | inr e ↦ absurd (omega (arith, ints, e)) ]

pub yields_literal : (W D : List ℤ → Type 0) (n : ℕ) (z : ℤ) → Yields W D n (literal Number n z) 0 (λ b. z)
yields_literal W D n z = yields_standing W D n (Int z) (λ b. z) tt (λ b d. number-Int b z)

pub tests_literal : (W D : List ℤ → Type 0) (n : ℕ) (z : ℤ) → IsBit z → Yields W D n (literal Logic n z) 3 (λ b. z)
tests_literal W D n z bit = yields_literal_truth W D n z bit

pub states_literal : (W D : List ℤ → Type 0) (n : ℕ) (z : ℤ) → IsBit z → Rule W D n (literal Stated n z).items 4 Always (λ b. z ≡ pos 1)
states_literal W D n z bit = states_asserted W D n (λ b. z) (literal_truth n z) 3 4 (omega arith) (yields_literal_truth W D n z bit)

pub tests_variable : (W D : List ℤ → Type 0) (n k : ℕ) → k < n → ((b : List ℤ) → D b → IsBit (num b (Var k))) → Yields W D n (variable Logic n k) 3 (λ b. num b (Var k))
tests_variable W D n k lt bit =
    yields_as W D D n (truth_of_number n (Var k)) 3 3 (λ b. truth (is_one (num b (Var k)))) (λ b. num b (Var k)) (λ b d. d) (λ b d. one_bit (num b (Var k)) (bit b d)) (omega arith) (yields_tested W D n (Var k) lt bit)

pub states_variable : (W D : List ℤ → Type 0) (n k : ℕ) → k < n → ((b : List ℤ) → D b → IsBit (num b (Var k))) → Rule W D n (variable Stated n k).items 4 Always (λ b. num b (Var k) ≡ pos 1)
states_variable W D n k lt bit = states_asserted W D n (λ b. num b (Var k)) (truth_of_number n (Var k)) 3 4 (omega arith) (tests_variable W D n k lt bit)
