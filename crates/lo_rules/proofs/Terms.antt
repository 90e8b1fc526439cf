-- The judgement of what gives a term: each builtin that defines a new variable, in the words of the values.
use Rattle.std.proofs.Common.{◌≡◌, ◌≢◌, inl, inr, ℕ, ◌+◌, ◌≤◌, ℤ, Bool, true, false, not, List, [], ◌∷◌, length, map, sum, refl, ap, ap₂, sym, subst, ◌∙◌, arith}
use Rattle.std.specs.Prelude.{int_le, int_lt}
use Rattle.std.specs.List.{list_any, list_all}
use Rattle.std.specs.Ordering.{int_eq}
use Rattle.std.proofs.lemmas.Int.{ints}
use Rattle.fz_model.specs.Calls.{call_of}
use Rattle.fz_model.specs.declared.builtin.Builtin.{Builtin}
use Rattle.fz_model.specs.declared.builtin.Builtin.TheVariants.{IntEqReif, IntNeReif, IntLeReif, IntLtReif, BoolEqReif, BoolLeReif, BoolNot, BoolXor, ArrayBoolAnd, ArrayBoolOr, SetInReif, Bool2Int, BoolClause}
use Rattle.fz_model.specs.declared.model.Arg.{Arg, fold-roll-Arg, out-Arg}
use Rattle.fz_model.specs.declared.model.Arg.TheOpen.{Arg-F}
use Rattle.fz_model.specs.declared.model.Arg.TheVariants as arg
use Rattle.fz_model.specs.declared.model.Call.{Call}
use Rattle.fz_model.specs.Fixing.{Agree, IsBit, Fixes, Last, place_of, IsItemBefore, AreItemsBefore, IsBefore}
use Rattle.fz_model.specs.Meaning.{at, truth, number, numbers, has, Worth, worth, is_one, row_of, clause}
use Rattle.fz_model.specs.Size.{leaves_step, leaves_of, call_leaves}
use Rattle.fz_model.proofs.Calls.{number-Int, numbers-List, has-Set, bool2int_says, bool2int_met, bool_not_says, bool_not_met, number-Var, bool_clause_says, bool_clause_met}
use Rattle.fz_model.proofs.Fixing.{before-Int, before-Bool, before-Var, before-Set, before-List, item_before-Int, item_before-Bool, item_before-Var, last_of_two_fixes, last_of_three_fixes, bool_xor_fixes, bool_not_fixes, bool2int_fixes_first, worth_same}
use Rattle.lo_base.specs.Item.{Posted}
use Rattle.xf_num.specs.Span.{Bounds}
use Rattle.lo_emit.specs.declared.term.Term.{Term}
use Rattle.lo_emit.specs.declared.term.Term.TheVariants.{Int, Truth, Var}
use Rattle.lo_emit.specs.Emitted.{Out, standing, arg_of, list_of, constants_of, truth_of_one, truth_of_two, truth_of_list, truth_of_set, truth_of_number, clause as clause_call}
use Rattle.lo_rules.specs.Rule.{num, Before, AllBefore, Always, Rule, Yields}
use Rattle.lo_rules.proofs.Rules.{sum_cons, rule_as}
use Rattle.lo_rules.proofs.Atoms.{rule_none, rule_test, rule_truth, rule_posted}

-- terms

pub term_before : (n : ℕ) (t : Term) → Before n t → IsBefore n (arg_of t)
term_before n (Int z) h = before-Int n z
term_before n (Truth t) h = before-Bool n t
term_before n (Var k) h = before-Var n k h

item_before : (n : ℕ) (t : Term) → Before n t → IsItemBefore n (out-Arg (arg_of t))
item_before n (Int z) h = item_before-Int n z
item_before n (Truth t) h = item_before-Bool n t
item_before n (Var k) h = item_before-Var n k h

pub items_before : (n : ℕ) (ts : List Term) → AllBefore n ts → AreItemsBefore n (map arg_of ts)
items_before n [] h = tt
items_before n (t ∷ ts) h = (item_before n t h.0, items_before n ts h.1)

pub list_before : (n : ℕ) (ts : List Term) → AllBefore n ts → IsBefore n (list_of ts)
list_before n ts h = before-List n (map arg_of ts) (items_before n ts h)

pub constant_items : (n : ℕ) (zs : List ℤ) → AreItemsBefore n (map arg.Int zs)
constant_items n [] = tt
constant_items n (z ∷ zs) = (item_before-Int n z, constant_items n zs)

pub constants_before : (n : ℕ) (zs : List ℤ) → IsBefore n (constants_of zs)
constants_before n zs = before-List n (map arg.Int zs) (constant_items n zs)

pub before_more : (m n : ℕ) (t : Term) → m ≤ n → Before m t → Before n t
before_more m n (Int z) le h = tt
before_more m n (Truth t) le h = tt
before_more m n (Var k) le h = omega (arith, le, h)

pub all_before_more : (m n : ℕ) (ts : List Term) → m ≤ n → AllBefore m ts → AllBefore n ts
all_before_more m n [] le h = tt
all_before_more m n (t ∷ ts) le h = (before_more m n t le h.0, all_before_more m n ts le h.1)

nums_are : (b : List ℤ) (ts : List Term) → map (number b) (map arg_of ts) ≡ map (num b) ts
nums_are b [] = refl
nums_are b (t ∷ ts) = ap (λ (zs : List ℤ). num b t ∷ zs) (nums_are b ts)

pub numbers_of_list : (b : List ℤ) (ts : List Term) → numbers b (list_of ts) ≡ map (num b) ts
numbers_of_list b ts = numbers-List b (map arg_of ts) ∙ nums_are b ts

constants_are : (b : List ℤ) (zs : List ℤ) → map (number b) (map arg.Int zs) ≡ zs
constants_are b [] = refl
constants_are b (z ∷ zs) = ap₂ (λ (y : ℤ) (ys : List ℤ). y ∷ ys) (number-Int b z) (constants_are b zs)

pub numbers_of_constants : (b : List ℤ) (zs : List ℤ) → numbers b (constants_of zs) ≡ zs
numbers_of_constants b zs = numbers-List b (map arg.Int zs) ∙ constants_are b zs

-- leaves

leaves-Int : (z : ℤ) → leaves_of (arg.Int z) ≡ 1
leaves-Int z = ap leaves_of (sym (arg.rolls-Int z)) ∙ fold-roll-Arg ℕ leaves_step (Arg-F.Int z)

leaves-Bool : (t : Bool) → leaves_of (arg.Bool t) ≡ 1
leaves-Bool t = ap leaves_of (sym (arg.rolls-Bool t)) ∙ fold-roll-Arg ℕ leaves_step (Arg-F.Bool t)

pub leaves-Var : (k : ℕ) → leaves_of (arg.Var k) ≡ 1
leaves-Var k = ap leaves_of (sym (arg.rolls-Var k)) ∙ fold-roll-Arg ℕ leaves_step (Arg-F.Var k)

pub leaves-Set : (zs : List ℤ) → leaves_of (arg.Set zs) ≡ length zs
leaves-Set zs = ap leaves_of (sym (arg.rolls-Set zs)) ∙ fold-roll-Arg ℕ leaves_step (Arg-F.Set zs)

pub leaves-Range : (w : Bounds) → leaves_of (arg.Range w) ≡ 2
leaves-Range w = ap leaves_of (sym (arg.rolls-Range w)) ∙ fold-roll-Arg ℕ leaves_step (Arg-F.Range w)

leaves-List : (xs : List Arg) → leaves_of (arg.List xs) ≡ sum (map leaves_of xs)
leaves-List xs = ap leaves_of (sym (arg.rolls-List xs)) ∙ fold-roll-Arg ℕ leaves_step (Arg-F.List xs)

pub leaf : (t : Term) → leaves_of (arg_of t) ≡ 1
leaf (Int z) = leaves-Int z
leaf (Truth t) = leaves-Bool t
leaf (Var k) = leaves-Var k

leaves-terms : (ts : List Term) → sum (map leaves_of (map arg_of ts)) ≡ length ts
leaves-terms [] = refl
leaves-terms (t ∷ ts) = omega (arith, leaf t, leaves-terms ts, sum_cons (leaves_of (arg_of t)) (map leaves_of (map arg_of ts)))

leaves-integers : (zs : List ℤ) → sum (map leaves_of (map arg.Int zs)) ≡ length zs
leaves-integers [] = refl
leaves-integers (z ∷ zs) = omega (arith, leaves-Int z, leaves-integers zs, sum_cons (leaves_of (arg.Int z)) (map leaves_of (map arg.Int zs)))

pub leaves-list : (ts : List Term) → leaves_of (list_of ts) ≡ length ts
leaves-list ts = leaves-List (map arg_of ts) ∙ leaves-terms ts

pub leaves-constants : (zs : List ℤ) → leaves_of (constants_of zs) ≡ length zs
leaves-constants zs = leaves-List (map arg.Int zs) ∙ leaves-integers zs

pub leaves_two : (i : Builtin) (x y : Arg) (p q : ℕ) → leaves_of x ≡ p → leaves_of y ≡ q → call_leaves (call_of i (x ∷ y ∷ [])) ≡ p + q
leaves_two i x y p q ex ey = omega (arith, sum_cons (leaves_of x) (leaves_of y ∷ []), sum_cons (leaves_of y) [], ex, ey)

pub leaves_three : (i : Builtin) (x y z : Arg) (p q r : ℕ) → leaves_of x ≡ p → leaves_of y ≡ q → leaves_of z ≡ r → call_leaves (call_of i (x ∷ y ∷ z ∷ [])) ≡ p + q + r
leaves_three i x y z p q r ex ey ez = omega (arith, sum_cons (leaves_of x) (leaves_of y ∷ leaves_of z ∷ []), leaves_two i y z q r ey ez, sum_cons (leaves_of y) (leaves_of z ∷ []), sum_cons (leaves_of z) [])

pub leaves_four : (i : Builtin) (x y z u : Arg) (p q r s : ℕ) → leaves_of x ≡ p → leaves_of y ≡ q → leaves_of z ≡ r → leaves_of u ≡ s → call_leaves (call_of i (x ∷ y ∷ z ∷ u ∷ [])) ≡ p + q + r + s
leaves_four i x y z u p q r s ex ey ez eu = omega (arith, sum_cons (leaves_of x) (leaves_of y ∷ leaves_of z ∷ leaves_of u ∷ []), leaves_three i y z u q r s ey ez eu, ex)

-- with other words for the value, and where more is known

pub yields_as : (W D D' : List ℤ → Type 0) (n : ℕ) (c : Out) (w w' : ℕ) (v v' : List ℤ → ℤ) → ((b : List ℤ) → D' b → D b) → ((b : List ℤ) → D' b → v b ≡ v' b) → w ≤ w' → Yields W D n c w v → Yields W D' n c w' v'
yields_as W D D' n c w w' v v' less same le y = record {
  rule = rule_as W D D' (λ b. num b c.term ≡ v b) (λ b. num b c.term ≡ v' b) Always Always n c.items w w' less (λ b d g. g ∙ same b d) (λ b d g p. tt) (λ b x d g p. tt) le y.rule;
  before = y.before;
}

-- a test of two numbers, of the numbers of a list, of a number and a set

two : (ℤ → ℤ → Bool) → List Worth → Bool
two f (x ∷ y ∷ []) = f x.number y.number
two f _ = false

one_list : (List ℤ → Bool) → List Worth → Bool
one_list f (xs ∷ []) = f xs.numbers
one_list f _ = false

among : List Worth → Bool
among (x ∷ s ∷ []) = s.has x.number
among _ = false

bit_is : (z : ℤ) → IsBit z → z ≡ truth (is_one z)
bit_is z e = elim e [ inl is ↦ is ∙ ap (λ (y : ℤ). truth (is_one y)) (sym is) | inr is ↦ is ∙ ap (λ (y : ℤ). truth (is_one y)) (sym is) ]

opposite_says : (z y : ℤ) → IsBit z → IsBit y → z ≢ y → y ≡ truth (not (is_one z))
opposite_says z y hz hy h = elim hz [
  | inl z0 ↦ elim hy [ inl y0 ↦ absurd (h (z0 ∙ sym y0)) | inr y1 ↦ y1 ∙ ap (λ (v : ℤ). truth (not (is_one v))) (sym z0) ]
  | inr z1 ↦ elim hy [ inl y0 ↦ y0 ∙ ap (λ (v : ℤ). truth (not (is_one v))) (sym z1) | inr y1 ↦ absurd (h (z1 ∙ sym y1)) ]
]

opposite_met : (z y : ℤ) → IsBit z → y ≡ truth (not (is_one z)) → z ≢ y
opposite_met z y hz e = elim hz [
  | inl z0 ↦ (λ same. absurd (omega (arith, ints, sym z0 ∙ same ∙ e ∙ ap (λ (v : ℤ). truth (not (is_one v))) z0)))
  | inr z1 ↦ (λ same. absurd (omega (arith, ints, sym z1 ∙ same ∙ e ∙ ap (λ (v : ℤ). truth (not (is_one v))) z1)))
]

module _ (W D : List ℤ → Type 0) (n : ℕ) where
  -- what stands already
  pub yields_standing : (t : Term) (v : List ℤ → ℤ) → Before n t → ((b : List ℤ) → D b → num b t ≡ v b) → Yields W D n (standing t) 0 v
  yields_standing t v h is = record { rule = rule_none W D (λ b. num b t ≡ v b) n 0 is; before = before_more n (n + 0) t (omega arith) h }

  yields_two : (i : Builtin) (f : ℤ → ℤ → Bool) (x y : Term) → Fixes n (call_of i (arg_of x ∷ arg_of y ∷ arg.Var n ∷ []))
      → ((u v r : Worth) → row_of i (u ∷ v ∷ r ∷ []) ≡ int_eq r.number (truth (f u.number v.number))) → Before n x → Before n y → Yields W D n (truth_of_two n i x y) 4 (λ b. truth (f (num b x) (num b y)))
  unfolding two
  yields_two i f x y fixes row hx hy = record {
    rule =
        rule_test W D n 4 i (arg_of x ∷ arg_of y ∷ []) (two f) fixes (term_before n x hx, (term_before n y hy, tt)) (λ b r. row (worth b (arg_of x)) (worth b (arg_of y)) r)
        (omega (arith, leaves_three i (arg_of x) (arg_of y) (arg.Var n) 1 1 1 (leaf x) (leaf y) (leaves-Var n)));
    before = omega arith;
  }

  reified : (i : Builtin) (f : ℤ → ℤ → Bool) (x y : Term) → place_of i ≡ Last → ((u v r : Worth) → row_of i (u ∷ v ∷ r ∷ []) ≡ int_eq r.number (truth (f u.number v.number))) → Before n x → Before n y
      → Yields W D n (truth_of_two n i x y) 4 (λ b. truth (f (num b x) (num b y)))
  reified i f x y last row hx hy = yields_two i f x y (last_of_three_fixes i n (arg_of x) (arg_of y) last (term_before n x hx) (term_before n y hy)) row hx hy

  pub yields_eq : (x y : Term) → Before n x → Before n y → Yields W D n (truth_of_two n IntEqReif x y) 4 (λ b. truth (int_eq (num b x) (num b y)))
  yields_eq x y = reified IntEqReif int_eq x y refl (λ u v r. refl)

  pub yields_ne : (x y : Term) → Before n x → Before n y → Yields W D n (truth_of_two n IntNeReif x y) 4 (λ b. truth (not (int_eq (num b x) (num b y))))
  yields_ne x y = reified IntNeReif (λ u v. not (int_eq u v)) x y refl (λ u v r. refl)

  pub yields_le : (x y : Term) → Before n x → Before n y → Yields W D n (truth_of_two n IntLeReif x y) 4 (λ b. truth (int_le (num b x) (num b y)))
  yields_le x y = reified IntLeReif int_le x y refl (λ u v r. refl)

  pub yields_lt : (x y : Term) → Before n x → Before n y → Yields W D n (truth_of_two n IntLtReif x y) 4 (λ b. truth (int_lt (num b x) (num b y)))
  yields_lt x y = reified IntLtReif int_lt x y refl (λ u v r. refl)

  pub yields_iff : (x y : Term) → Before n x → Before n y → Yields W D n (truth_of_two n BoolEqReif x y) 4 (λ b. truth (int_eq (num b x) (num b y)))
  yields_iff x y = reified BoolEqReif int_eq x y refl (λ u v r. refl)

  pub yields_imp : (x y : Term) → Before n x → Before n y → Yields W D n (truth_of_two n BoolLeReif x y) 4 (λ b. truth (int_le (num b x) (num b y)))
  yields_imp x y = reified BoolLeReif int_le x y refl (λ u v r. refl)

  pub yields_xor : (x y : Term) → Before n x → Before n y → Yields W D n (truth_of_two n BoolXor x y) 4 (λ b. truth (not (int_eq (num b x) (num b y))))
  yields_xor x y hx hy =
      yields_two BoolXor (λ u v. not (int_eq u v)) x y (bool_xor_fixes n (arg_of x) (arg_of y) (term_before n x hx) (term_before n y hy)) (λ u v r. refl) hx hy

  yields_listed : (i : Builtin) (f : List ℤ → Bool) (ts : List Term) → place_of i ≡ Last → ((xs r : Worth) → row_of i (xs ∷ r ∷ []) ≡ int_eq r.number (truth (f xs.numbers))) → AllBefore n ts
      → Yields W D n (truth_of_list n i ts) (2 + length ts) (λ b. truth (f (map (num b) ts)))
  unfolding one_list
  yields_listed i f ts last row h =
      yields_as W D D n (truth_of_list n i ts) (2 + length ts) (2 + length ts) (λ b. truth (f (numbers b (list_of ts)))) (λ b. truth (f (map (num b) ts))) (λ b d. d)
      (λ b d. ap (λ (zs : List ℤ). truth (f zs)) (numbers_of_list b ts)) (omega arith) (record {
        rule =
            rule_test W D n (2 + length ts) i (list_of ts ∷ []) (one_list f) (last_of_two_fixes i n (list_of ts) last (list_before n ts h)) (list_before n ts h, tt) (λ b r. row (worth b (list_of ts)) r)
            (omega (arith, leaves_two i (list_of ts) (arg.Var n) (length ts) 1 (leaves-list ts) (leaves-Var n)));
        before = omega arith;
      })

  pub yields_and : (ts : List Term) → AllBefore n ts → Yields W D n (truth_of_list n ArrayBoolAnd ts) (2 + length ts) (λ b. truth (list_all is_one (map (num b) ts)))
  yields_and ts = yields_listed ArrayBoolAnd (list_all is_one) ts refl (λ xs r. refl)

  pub yields_or : (ts : List Term) → AllBefore n ts → Yields W D n (truth_of_list n ArrayBoolOr ts) (2 + length ts) (λ b. truth (list_any is_one (map (num b) ts)))
  yields_or ts = yields_listed ArrayBoolOr (list_any is_one) ts refl (λ xs r. refl)

  pub yields_among : (x : Term) (zs : List ℤ) → Before n x → Yields W D n (truth_of_set n x zs) (3 + length zs) (λ b. truth (list_any (int_eq (num b x)) zs))
  unfolding among
  yields_among x zs hx =
      yields_as W D D n (truth_of_set n x zs) (3 + length zs) (3 + length zs) (λ b. truth (has (arg.Set zs) (num b x))) (λ b. truth (list_any (int_eq (num b x)) zs)) (λ b d. d)
      (λ b d. ap truth (has-Set zs (num b x))) (omega arith) (record {
        rule =
            rule_test W D n (3 + length zs) SetInReif (arg_of x ∷ arg.Set zs ∷ []) among
            (last_of_three_fixes SetInReif n (arg_of x) (arg.Set zs) refl (term_before n x hx) (before-Set n zs)) (term_before n x hx, (before-Set n zs, tt)) (λ b r. refl)
            (omega (arith, leaves_three SetInReif (arg_of x) (arg.Set zs) (arg.Var n) 1 (length zs) 1 (leaf x) (leaves-Set zs) (leaves-Var n)));
        before = omega arith;
      })

  same_one : (x : Term) → Before n x → (b c : List ℤ) → Agree n b c → is_one (num b x) ≡ is_one (num c x)
  same_one x hx b c agree = ap (λ (y : Worth). is_one y.number) (worth_same n b c (arg_of x) agree (term_before n x hx))

  -- the opposite of a truth value, which has to be known to be one
  pub yields_not : (x : Term) → Before n x → ((b : List ℤ) → D b → IsBit (num b x)) → Yields W D n (truth_of_one n BoolNot x) 3 (λ b. truth (not (is_one (num b x))))
  yields_not x hx bit =
      let call : Call = call_of BoolNot (arg_of x ∷ arg.Var n ∷ []) in
      record {
        rule =
            rule_truth W D n 3 call (λ b. not (is_one (num b x))) (bool_not_fixes n (arg_of x) (term_before n x hx)) (λ b c agree. ap not (same_one x hx b c agree))
            (λ b d new h. opposite_says (num b x) (at b n) (bit b d) new (λ e. bool_not_says b (arg_of x) (arg.Var n) h (e ∙ sym (number-Var b n))))
            (λ b d e. bool_not_met b (arg_of x) (arg.Var n) (λ same. opposite_met (num b x) (at b n) (bit b d) e (same ∙ number-Var b n)))
            (omega (arith, leaves_two BoolNot (arg_of x) (arg.Var n) 1 1 (leaf x) (leaves-Var n)));
        before = omega arith;
      }

  -- the truth value that a number is
  pub yields_tested : (x : Term) → Before n x → ((b : List ℤ) → D b → IsBit (num b x)) → Yields W D n (truth_of_number n x) 3 (λ b. truth (is_one (num b x)))
  yields_tested x hx bit =
      let call : Call = call_of Bool2Int (arg.Var n ∷ arg_of x ∷ []) in
      record {
        rule =
            rule_truth W D n 3 call (λ b. is_one (num b x)) (bool2int_fixes_first n (arg_of x) (term_before n x hx)) (λ b c agree. same_one x hx b c agree)
            (λ b d new h. sym (number-Var b n) ∙ bool2int_says b (arg.Var n) (arg_of x) h ∙ bit_is (num b x) (bit b d)) (λ b d e. bool2int_met b (arg.Var n) (arg_of x) (number-Var b n ∙ e ∙ sym (bit_is (num b x) (bit b d))))
            (omega (arith, leaves_two Bool2Int (arg.Var n) (arg_of x) 1 1 (leaves-Var n) (leaf x)));
        before = omega arith;
      }

  -- a clause
  pub rule_clause : (ps ns : List Term) → AllBefore n ps → AllBefore n ns → Rule W D n (Posted (clause_call ps ns) ∷ []) (length ps + length ns) Always (λ b. clause (map (num b) ps) (map (num b) ns) ≡ true)
  rule_clause ps ns hp hn =
      let same : (b : List ℤ) → clause (numbers b (list_of ps)) (numbers b (list_of ns)) ≡ clause (map (num b) ps) (map (num b) ns) = λ b. ap₂ clause (numbers_of_list b ps) (numbers_of_list b ns) in
      rule_posted W D (λ b. clause (map (num b) ps) (map (num b) ns) ≡ true) n (length ps + length ns) (clause_call ps ns) (list_before n ps hp, (list_before n ns hn, tt))
      (λ b d h. sym (same b) ∙ bool_clause_says b (list_of ps) (list_of ns) h) (λ b d p. bool_clause_met b (list_of ps) (list_of ns) (same b ∙ p))
      (omega (arith, leaves_two BoolClause (list_of ps) (list_of ns) (length ps) (length ns) (leaves-list ps) (leaves-list ns)))
