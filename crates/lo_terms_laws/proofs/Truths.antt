-- What the operators that give truth values are lowered to yields these.
use Rattle.std.proofs.Common.{◌≡◌, inl, inr, ℕ, ◌+◌, ◌*◌, ◌≤◌, ◌==◌, ℤ, pos, Bool, true, false, not, ◌&&◌, ◌||◌, List, [], ◌∷◌, ◌++◌, length, map, refl, ap, ap₂, sym, ◌∙◌, subst, arith}
use Rattle.std.specs.Prelude.{slice_index_or, if◌then◌else◌}
use Rattle.std.specs.List.{AllByRecursion, list_any, list_all}
use Rattle.std.specs.Ordering.{int_eq}
use Rattle.std.proofs.lemmas.Bool.Decides.{nat_tests}
use Rattle.fz_model.specs.declared.builtin.Builtin.TheVariants.{IntEqReif, BoolXor, BoolNot, ArrayBoolAnd, ArrayBoolOr}
use Rattle.fz_model.specs.Fixing.{IsBit}
use Rattle.fz_model.specs.Meaning.{truth, is_one}
use Rattle.fz_model.proofs.Calls.{number-Int, number-Bool, equal as equal_is, equal_met}
use Rattle.xs_model.specs.Value.{is_true, is_odd, all_equal as every_equal}
use Rattle.lo_base.specs.Item.{made}
use Rattle.lo_base.proofs.Solving.{made-append, truth_bit}
use Rattle.lo_emit.specs.declared.term.Term.{Term}
use Rattle.lo_emit.specs.declared.term.Term.TheVariants.{Int, Truth, Var}
use Rattle.lo_emit.specs.Emitted.{Out, Outs, truth_of_two, truth_of_list}
use Rattle.lo_rules.specs.Rule.{num, Before, AllBefore, Always, Yields, YieldsAll}
use Rattle.lo_rules.proofs.Rules.{rules_join, rule_as}
use Rattle.lo_rules.proofs.Atoms.{rule_none}
use Rattle.lo_rules.proofs.Chains.{yields_behind, yields_behind_all}
use Rattle.lo_rules.proofs.Conditions.{yields_denied}
use Rattle.lo_rules.proofs.Loops.{rule_under}
use Rattle.lo_rules.proofs.Terms.{before_more, all_before_more, yields_as, yields_standing, yields_eq, yields_xor, yields_and, yields_or, yields_among}
use Rattle.lo_rules.proofs.Tests.{bit_is, eq_turned, one_truth}
use Rattle.lo_terms.specs.Rules.{equalities, all_equal, equal_to, equal, comparisons, integer_term, written_member, some_equal, member, no_member, parity, parity_of}
use Rattle.lo_terms_laws.proofs.Operands.{AllBits}

-- one term more, and a greater size
yields_more : (W D : List ℤ → Type 0) (n : ℕ) (v : List ℤ → ℤ) (vs : List ℤ → List ℤ) (c : Out) (d : Outs) (w u size : ℕ) → w + u ≤ size → Yields W D n c w v → YieldsAll W D (n + made c.items) d u vs
    → YieldsAll W D n (record { items = c.items ++ d.items; terms = c.term ∷ d.terms }) size (λ b. v b ∷ vs b)
yields_more W D n v vs c d w u size le first rest =
    let k : ℕ = n + made c.items in
    let end : ℕ = n + made (c.items ++ d.items) in
    let G : List ℤ → Type 0 = λ b. num b c.term ≡ v b in
    let H : List ℤ → Type 0 = λ b. map (num b) d.terms ≡ vs b in
    record {
      rule =
          rule_as W D D (λ b. G b × H b) (λ b. map (num b) (c.term ∷ d.terms) ≡ v b ∷ vs b) (λ b. Always b × Always b) Always n (c.items ++ d.items) (w + u) size (λ b e. e) (λ b e g. ap₂ (λ (y : ℤ) (ys : List ℤ). y ∷ ys) g.0 g.1)
          (λ b e g p. tt) (λ b y e g p. (tt, tt)) le (rules_join W D G H Always Always n c.items d.items w u first.rule (rule_under W D (λ b. D b × G b) H Always k d.items u (λ b e. e.0) rest.rule));
      before = (before_more k end c.term (omega (arith, made-append c.items d.items)) first.before, all_before_more (k + made d.items) end d.terms (omega (arith, made-append c.items d.items)) rest.before);
    }

-- whether each equals the one before it
unfoldable pub adjacent : ℤ → List ℤ → List ℤ
adjacent u [] = []
adjacent u (v ∷ vs) = truth (int_eq u v) ∷ adjacent v vs

yields_equalities : (W D : List ℤ → Type 0) (n : ℕ) (x : Term) (ys : List Term) → Before n x → AllBefore n ys → YieldsAll W D n (equalities n x ys) (4 * length ys) (λ b. adjacent (num b x) (map (num b) ys))
unfolding adjacent
yields_equalities W D n x [] hx hys = record { rule = rule_none W D (λ b. map (num b) [] ≡ adjacent (num b x) (map (num b) [])) n 0 (λ b d. refl); before = tt }
yields_equalities W D n x (y ∷ ys) hx hys =
    let c : Out = truth_of_two n IntEqReif x y in
    let k : ℕ = n + made c.items in
    yields_more W D n (λ b. truth (int_eq (num b x) (num b y))) (λ b. adjacent (num b y) (map (num b) ys)) c (equalities k y ys) 4 (4 * length ys) (4 * length (y ∷ ys)) (omega arith) (yields_eq W D n x y hx hys.0)
    (yields_equalities W D k y ys (before_more n k y (omega arith) hys.0) (all_before_more n k ys (omega arith) hys.1))

equalities_many : (n : ℕ) (x : Term) (ys : List Term) → length (equalities n x ys).terms ≡ length ys
equalities_many n x [] = refl
equalities_many n x (y ∷ ys) = let rest = equalities_many (n + 1) y ys in omega (arith, rest)

same_and : (t : Bool) (r s : Bool) → (t ≡ true → r ≡ s) → (t && r) ≡ (t && s)
same_and true r s h = h refl
same_and false r s h = refl

adjacent_is : (u : ℤ) (vs : List ℤ) → list_all is_one (adjacent u vs) ≡ list_all (λ y. int_eq y u) vs
unfolding adjacent
adjacent_is u [] = refl
adjacent_is u (v ∷ vs) =
    ap (λ (t : Bool). t && list_all is_one (adjacent v vs)) (one_truth (int_eq u v))
    ∙ same_and (int_eq u v) (list_all is_one (adjacent v vs)) (list_all (λ y. int_eq y u) vs) (λ e. adjacent_is v vs ∙ ap (λ (z : ℤ). list_all (λ y. int_eq y z) vs) (sym (equal_is u v e)))
    ∙ ap (λ (t : Bool). t && list_all (λ y. int_eq y u) vs) (eq_turned u v)

pub all_adjacent : (u : ℤ) (vs : List ℤ) → list_all is_one (adjacent u vs) ≡ every_equal (u ∷ vs)
all_adjacent u vs = adjacent_is u vs ∙ ap (λ (t : Bool). t && list_all (λ y. int_eq y u) vs) (sym (equal_met u u refl))

yields_all_equal : (W D : List ℤ → Type 0) (n : ℕ) (x : Term) (ys : List Term) → Before n x → AllBefore n ys → Yields W D n (all_equal n x ys) (5 * length ys + 4) (λ b. truth (every_equal (num b x ∷ map (num b) ys)))
yields_all_equal W D n x ys hx hys =
    let d : Outs = equalities n x ys in
    let first = yields_equalities W D n x ys hx hys in
    let k : ℕ = n + made d.items in
    let m : ℕ = 2 + length d.terms in
    let v : List ℤ → ℤ = λ b. truth (every_equal (num b x ∷ map (num b) ys)) in
    let E : List ℤ → Type 0 = λ b. D b × (map (num b) d.terms ≡ adjacent (num b x) (map (num b) ys)) in
    yields_as W D D n (all_equal n x ys) (4 * length ys + m) (5 * length ys + 4) v v (λ b e. e) (λ b e. refl) (omega (arith, equalities_many n x ys))
    (yields_behind_all W D n (λ b. adjacent (num b x) (map (num b) ys)) v d (λ i bs. truth_of_list i ArrayBoolAnd bs) (4 * length ys) m first
    (yields_as W E E k (truth_of_list k ArrayBoolAnd d.terms) m m (λ b. truth (list_all is_one (map (num b) d.terms))) v (λ b e. e)
    (λ b e. ap (λ (zs : List ℤ). truth (list_all is_one zs)) e.1 ∙ ap truth (all_adjacent (num b x) (map (num b) ys))) (omega arith) (yields_and W E k d.terms first.before)))

yields_one_equal : (W D : List ℤ → Type 0) (n : ℕ) (x : Term) (ys : List Term) → length ys ≡ 1 → Before n x → AllBefore n ys
    → Yields W D n (truth_of_two n IntEqReif x (slice_index_or ys 0 x)) (5 * length ys + 4) (λ b. truth (every_equal (num b x ∷ map (num b) ys)))
unfolding adjacent
yields_one_equal W D n x [] one hx hys = absurd (omega (arith, one))
yields_one_equal W D n x (y ∷ z ∷ ys) one hx hys = absurd (omega (arith, one))
yields_one_equal W D n x (y ∷ []) one hx hys =
    yields_as W D D n (truth_of_two n IntEqReif x y) 4 (5 * length (y ∷ []) + 4) (λ b. truth (int_eq (num b x) (num b y))) (λ b. truth (every_equal (num b x ∷ num b y ∷ []))) (λ b d. d)
    (λ b d. alone (int_eq (num b x) (num b y)) ∙ ap truth (all_adjacent (num b x) (num b y ∷ []))) (omega arith) (yields_eq W D n x y hx hys.0)
  where
    alone : (t : Bool) → truth t ≡ truth (is_one (truth t) && true)
    alone true = refl
    alone false = refl

yields_equal_to : (W D : List ℤ → Type 0) (n : ℕ) (x : Term) (ys : List Term) → Before n x → AllBefore n ys → Yields W D n (equal_to n x ys) (5 * length ys + 4) (λ b. truth (every_equal (num b x ∷ map (num b) ys)))
yields_equal_to W D n x ys hx hys = by (length ys == 1) refl
  where
    counted : (k : ℕ) → (k == 1) ≡ true → k ≡ 1
    counted k h = grind (arith, nat_tests, h)

    by : (t : Bool) → (length ys == 1) ≡ t
        → Yields W D n (if t then truth_of_two n IntEqReif x (slice_index_or ys 0 x) else all_equal n x ys) (5 * length ys + 4) (λ b. truth (every_equal (num b x ∷ map (num b) ys)))
    by true e = yields_one_equal W D n x ys (counted (length ys) e) hx hys
    by false e = yields_all_equal W D n x ys hx hys

pub yields_equal : (W D : List ℤ → Type 0) (n : ℕ) (ts : List Term) → AllBefore n ts → Yields W D n (equal n ts) (5 * length ts + 4) (λ b. truth (every_equal (map (num b) ts)))
yields_equal W D n [] h =
    let v : List ℤ → ℤ = λ b. truth (every_equal (map (num b) [])) in
    yields_as W D D n (equal n []) 0 (5 * length {A = Term} [] + 4) v v (λ b d. d) (λ b d. refl) (omega arith) (yields_standing W D n (Truth true) v tt (λ b d. number-Bool b true))
yields_equal W D n (x ∷ xs) h =
    let v : List ℤ → ℤ = λ b. truth (every_equal (map (num b) (x ∷ xs))) in
    yields_as W D D n (equal n (x ∷ xs)) (5 * length xs + 4) (5 * length (x ∷ xs) + 4) v v (λ b d. d) (λ b d. refl) (omega arith) (yields_equal_to W D n x xs h.0 h.1)

-- whether a number is among others
compared : ℤ → List ℤ → List ℤ
compared u vs = map (λ v. truth (int_eq u v)) vs

yields_comparisons : (W D : List ℤ → Type 0) (n : ℕ) (x : Term) (ms : List Term) → Before n x → AllBefore n ms → YieldsAll W D n (comparisons n x ms) (4 * length ms) (λ b. compared (num b x) (map (num b) ms))
unfolding compared
yields_comparisons W D n x [] hx hms = record { rule = rule_none W D (λ b. map (num b) [] ≡ compared (num b x) (map (num b) [])) n 0 (λ b d. refl); before = tt }
yields_comparisons W D n x (m ∷ ms) hx hms =
    let c : Out = truth_of_two n IntEqReif x m in
    let k : ℕ = n + made c.items in
    yields_more W D n (λ b. truth (int_eq (num b x) (num b m))) (λ b. compared (num b x) (map (num b) ms)) c (comparisons k x ms) 4 (4 * length ms) (4 * length (m ∷ ms)) (omega arith) (yields_eq W D n x m hx hms.0)
    (yields_comparisons W D k x ms (before_more n k x (omega arith) hx) (all_before_more n k ms (omega arith) hms.1))

comparisons_many : (n : ℕ) (x : Term) (ms : List Term) → length (comparisons n x ms).terms ≡ length ms
comparisons_many n x [] = refl
comparisons_many n x (m ∷ ms) = let rest = comparisons_many (n + 1) x ms in omega (arith, rest)

compared_is : (u : ℤ) (vs : List ℤ) → list_any is_one (compared u vs) ≡ list_any (int_eq u) vs
unfolding compared
compared_is u [] = refl
compared_is u (v ∷ vs) = ap₂ (λ (s t : Bool). s || t) (one_truth (int_eq u v)) (compared_is u vs)

pub yields_some_equal : (W D : List ℤ → Type 0) (n : ℕ) (x : Term) (ms : List Term) → Before n x → AllBefore n ms → Yields W D n (some_equal n x ms) (5 * length ms + 4) (λ b. truth (list_any (int_eq (num b x)) (map (num b) ms)))
yields_some_equal W D n x ms hx hms =
    let d : Outs = comparisons n x ms in
    let first = yields_comparisons W D n x ms hx hms in
    let k : ℕ = n + made d.items in
    let m : ℕ = 2 + length d.terms in
    let v : List ℤ → ℤ = λ b. truth (list_any (int_eq (num b x)) (map (num b) ms)) in
    let E : List ℤ → Type 0 = λ b. D b × (map (num b) d.terms ≡ compared (num b x) (map (num b) ms)) in
    yields_as W D D n (some_equal n x ms) (4 * length ms + m) (5 * length ms + 4) v v (λ b e. e) (λ b e. refl) (omega (arith, comparisons_many n x ms))
    (yields_behind_all W D n (λ b. compared (num b x) (map (num b) ms)) v d (λ i bs. truth_of_list i ArrayBoolOr bs) (4 * length ms) m first
    (yields_as W E E k (truth_of_list k ArrayBoolOr d.terms) m m (λ b. truth (list_any is_one (map (num b) d.terms))) v (λ b e. e)
    (λ b e. ap (λ (zs : List ℤ). truth (list_any is_one zs)) e.1 ∙ ap truth (compared_is (num b x) (map (num b) ms))) (omega arith) (yields_or W E k d.terms first.before)))

-- an integer as written
abbrev pub IsWritten : Term → Type 0
IsWritten (Int z) = Unit {0}
IsWritten (Truth t) = ⊥
IsWritten (Var v) = ⊥

written_is : (b : List ℤ) (t : Term) → IsWritten t → integer_term t ≡ num b t
written_is b (Int z) h = sym (number-Int b z)
written_is b (Truth t) h = absurd h
written_is b (Var v) h = absurd h

pub all_written : (b : List ℤ) (ts : List Term) → AllByRecursion IsWritten ts → map integer_term ts ≡ map (num b) ts
all_written b [] h = refl
all_written b (t ∷ ts) h = ap₂ (λ (z : ℤ) (zs : List ℤ). z ∷ zs) (written_is b t h.0) (all_written b ts h.1)

pub integers_many : (ts : List Term) → length (map integer_term ts) ≡ length ts
integers_many [] = refl
integers_many (t ∷ ts) = let rest = integers_many ts in omega (arith, rest)

yields_written : (W D : List ℤ → Type 0) (n : ℕ) (x : Term) (zs : List ℤ) → Before n x → Yields W D n (written_member n x zs) (3 + length zs) (λ b. truth (list_any (int_eq (num b x)) zs))
yields_written W D n x [] hx =
    yields_as W D D n (written_member n x []) 0 3 (λ b. truth false) (λ b. truth (list_any (int_eq (num b x)) [])) (λ b d. d) (λ b d. refl) (omega arith) (yields_standing W D n (Truth false) (λ b. truth false) tt (λ b d. number-Bool b false))
yields_written W D n x (z ∷ zs) hx = yields_among W D n x (z ∷ zs) hx

-- whether the first is among the others, which are integers as written where that is said
pub yields_member : (W D : List ℤ → Type 0) (n : ℕ) (written : Bool) (x : Term) (ms : List Term) → Before n x → AllBefore n ms → (written ≡ true → AllByRecursion IsWritten ms)
    → Yields W D n (member written n (x ∷ ms)) (5 * length ms + 4) (λ b. truth (list_any (int_eq (num b x)) (map (num b) ms)))
yields_member W D n true x ms hx hms literal =
    let zs : List ℤ = map integer_term ms in
    yields_as W D D n (written_member n x zs) (3 + length zs) (5 * length ms + 4) (λ b. truth (list_any (int_eq (num b x)) zs)) (λ b. truth (list_any (int_eq (num b x)) (map (num b) ms))) (λ b d. d)
    (λ b d. ap (λ (ys : List ℤ). truth (list_any (int_eq (num b x)) ys)) (all_written b ms (literal refl))) (omega (arith, integers_many ms)) (yields_written W D n x zs hx)
yields_member W D n false x ms hx hms literal = yields_some_equal W D n x ms hx hms

pub yields_no_member : (W D : List ℤ → Type 0) (n : ℕ) (written : Bool) (x : Term) (ms : List Term) → Before n x → AllBefore n ms → (written ≡ true → AllByRecursion IsWritten ms)
    → Yields W D n (no_member written n (x ∷ ms)) (5 * length ms + 4 + 3) (λ b. truth (not (list_any (int_eq (num b x)) (map (num b) ms))))
yields_no_member W D n written x ms hx hms literal =
    yields_denied W D n (λ b. list_any (int_eq (num b x)) (map (num b) ms)) (member written n (x ∷ ms)) (5 * length ms + 4) (yields_member W D n written x ms hx hms literal)

-- parity, from the left
odd_step : (s t : Bool) (vs : List ℤ) → is_odd (truth (not (int_eq (truth s) (truth t))) ∷ vs) ≡ is_odd (truth s ∷ truth t ∷ vs)
odd_step true true vs = twice (is_odd vs)
  where
    twice : (t : Bool) → t ≡ not (not t)
    twice true = refl
    twice false = refl
odd_step true false vs = refl
odd_step false true vs = refl
odd_step false false vs = refl

odd_more : (x y : ℤ) (vs : List ℤ) → IsBit x → IsBit y → is_odd (truth (not (int_eq x y)) ∷ vs) ≡ is_odd (x ∷ y ∷ vs)
odd_more x y vs hx hy =
    ap₂ (λ (s t : ℤ). is_odd (truth (not (int_eq s t)) ∷ vs)) (bit_is x hx) (bit_is y hy) ∙ odd_step (is_true x) (is_true y) vs ∙ sym (ap₂ (λ (s t : ℤ). is_odd (s ∷ t ∷ vs)) (bit_is x hx) (bit_is y hy))

odd_alone : (x : ℤ) → IsBit x → x ≡ truth (is_odd (x ∷ []))
odd_alone x h = let P : ℤ → Type 0 = λ z. z ≡ truth (is_odd (z ∷ [])) in elim h [ inl e ↦ subst P (sym e) refl | inr e ↦ subst P (sym e) refl ]

yields_parity : (W D : List ℤ → Type 0) (n : ℕ) (x : Term) (ts : List Term) → Before n x → AllBefore n ts → ((b : List ℤ) → D b → IsBit (num b x)) → ((b : List ℤ) → D b → AllBits (map (num b) ts))
    → Yields W D n (parity n x ts) (4 * length ts) (λ b. truth (is_odd (num b x ∷ map (num b) ts)))
yields_parity W D n x [] hx hts bit bits = yields_standing W D n x (λ b. truth (is_odd (num b x ∷ []))) hx (λ b d. odd_alone (num b x) (bit b d))
yields_parity W D n x (t ∷ ts) hx hts bit bits =
    let c : Out = truth_of_two n BoolXor x t in
    let k : ℕ = n + made c.items in
    let u : List ℤ → ℤ = λ b. truth (not (int_eq (num b x) (num b t))) in
    let v : List ℤ → ℤ = λ b. truth (is_odd (num b x ∷ num b t ∷ map (num b) ts)) in
    let E : List ℤ → Type 0 = λ b. D b × (num b c.term ≡ u b) in
    let first = yields_xor W D n x t hx hts.0 in
    let rest =
    yields_parity W E k c.term ts first.before (all_before_more n k ts (omega arith) hts.1) (λ b e. subst IsBit (sym e.1) (truth_bit (not (int_eq (num b x) (num b t))))) (λ b e. (bits b e.0).1) in
    let same : (b : List ℤ) → E b → truth (is_odd (num b c.term ∷ map (num b) ts)) ≡ v b =
    λ b e. ap (λ (z : ℤ). truth (is_odd (z ∷ map (num b) ts))) e.1 ∙ ap truth (odd_more (num b x) (num b t) (map (num b) ts) (bit b e.0) (bits b e.0).0) in
    yields_as W D D n (parity n x (t ∷ ts)) (4 + 4 * length ts) (4 * length (t ∷ ts)) v v (λ b d. d) (λ b d. refl) (omega arith)
    (yields_behind W D n u v c (λ i y. parity i y ts) 4 (4 * length ts) first
    (yields_as W E E k (parity k c.term ts) (4 * length ts) (4 * length ts) (λ b. truth (is_odd (num b c.term ∷ map (num b) ts))) v (λ b e. e) same (omega arith) rest))

pub yields_parity_of : (W D : List ℤ → Type 0) (n : ℕ) (ts : List Term) → AllBefore n ts → ((b : List ℤ) → D b → AllBits (map (num b) ts)) → Yields W D n (parity_of n ts) (4 * length ts) (λ b. truth (is_odd (map (num b) ts)))
yields_parity_of W D n [] h bits = yields_standing W D n (Truth false) (λ b. truth (is_odd (map (num b) []))) tt (λ b d. number-Bool b false)
yields_parity_of W D n (t ∷ ts) h bits =
    let v : List ℤ → ℤ = λ b. truth (is_odd (map (num b) (t ∷ ts))) in
    yields_as W D D n (parity n t ts) (4 * length ts) (4 * length (t ∷ ts)) v v (λ b d. d) (λ b d. refl) (omega arith) (yields_parity W D n t ts h.0 h.1 (λ b d. (bits b d).0) (λ b d. (bits b d).1))
