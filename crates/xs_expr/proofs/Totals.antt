-- What is gathered of a list of values is what an operator makes of the list.
use Rattle.std.proofs.Common.{◌≡◌, ℕ, suc, ◌<◌, ◌==◌, ℤ, pos, ◌+ℤ◌, refl, sym, ◌∙◌, ap, Bool, true, false, not, ◌&&◌, ◌||◌, if◌then◌else◌, List, [], ◌∷◌, fold, arith}
use Rattle.std.specs.List.{list_all, list_any}
use Rattle.std.specs.Int.{int_min, int_max}
use Rattle.std.specs.Ordering.{int_eq}
use Rattle.std.proofs.lemmas.Grind.{common_steps}
use Rattle.std.proofs.lemmas.Bool.Decides.{nat_tests}
use Rattle.std.proofs.lemmas.Int.{ints}
use Rattle.std.proofs.Math.IntN.{+ℤ_idl}
use Rattle.xs_model.specs.declared.expr.Op.{Op}
use Rattle.xs_model.specs.declared.expr.Op.TheVariants.{Neg, Abs, Sqr, Add, Mul, Sub, Dist, Div, Mod, Pow, Min, Max, Lt, Le, Gt, Ge, Ne, Eq, Set, In, NotIn, Not, And, Or, Xor, Iff, Imp, If}
use Rattle.xs_model.specs.Value.{at, truth, is_true, sum_of, product_from, least_of, greatest_of, all_equal, is_odd, apply}
use Rattle.xs_expr.specs.declared.worth.Values.{Values}
use Rattle.xs_expr.specs.Worths.{flipped, stepped, no_values, with_value, with_values, all_values, node_value}

-- a place past another is not the other
past : (k n : ℕ) → n < k → (k == n) ≡ false
past k n h = grind (arith, nat_tests)

-- the first three values stay
first-kept : (op : Op) (k : ℕ) (s : Values) (xs : List ℤ) → (with_values op (suc k) s xs).first ≡ s.first
first-kept op k s [] = refl
first-kept op k s (x ∷ xs) = first-kept op (suc k) (with_value op (suc k) s x) xs ∙ ap (λ (t : Bool). if◌then◌else◌ {A = ℤ} t x s.first) (past (suc k) 0 (omega arith))

second-kept : (op : Op) (k : ℕ) (s : Values) (xs : List ℤ) → (with_values op (suc (suc k)) s xs).second ≡ s.second
second-kept op k s [] = refl
second-kept op k s (x ∷ xs) = second-kept op (suc k) (with_value op (suc (suc k)) s x) xs ∙ ap (λ (t : Bool). if◌then◌else◌ {A = ℤ} t x s.second) (past (suc (suc k)) 1 (omega arith))

third-kept : (op : Op) (k : ℕ) (s : Values) (xs : List ℤ) → (with_values op (suc (suc (suc k))) s xs).third ≡ s.third
third-kept op k s [] = refl
third-kept op k s (x ∷ xs) = third-kept op (suc k) (with_value op (suc (suc (suc k))) s x) xs ∙ ap (λ (t : Bool). if◌then◌else◌ {A = ℤ} t x s.third) (past (suc (suc (suc k))) 2 (omega arith))

pub all-first : (op : Op) (xs : List ℤ) → (all_values op xs).first ≡ at xs 0
all-first op [] = refl
all-first op (x ∷ xs) = first-kept op 0 (with_value op 0 (no_values op) x) xs

pub all-second : (op : Op) (xs : List ℤ) → (all_values op xs).second ≡ at xs 1
all-second op [] = refl
all-second op (x ∷ []) = refl
all-second op (x ∷ y ∷ xs) = second-kept op 0 (with_value op 1 (with_value op 0 (no_values op) x) y) xs

pub all-third : (op : Op) (xs : List ℤ) → (all_values op xs).third ≡ at xs 2
all-third op [] = refl
all-third op (x ∷ []) = refl
all-third op (x ∷ y ∷ []) = refl
all-third op (x ∷ y ∷ z ∷ xs) = third-kept op 0 (with_value op 2 (with_value op 1 (with_value op 0 (no_values op) x) y) z) xs

-- sums and products
add-total : (k : ℕ) (s : Values) (xs : List ℤ) → (with_values Add k s xs).total ≡ s.total +ℤ sum_of xs
add-total k s [] = omega (arith, ints)
add-total k s (x ∷ xs) = let rest = add-total (suc k) (with_value Add k s x) xs in omega (arith, ints, rest)

mul-total : (k : ℕ) (s : Values) (xs : List ℤ) → (with_values Mul k s xs).total ≡ product_from s.total xs
mul-total k s [] = refl
mul-total k s (x ∷ xs) = mul-total (suc k) (with_value Mul k s x) xs

-- the least and the greatest
min-total : (k : ℕ) (s : Values) (xs : List ℤ) → (with_values Min (suc k) s xs).total ≡ fold int_min s.total xs
min-total k s [] = refl
min-total k s (x ∷ xs) = min-total (suc k) (with_value Min (suc k) s x) xs ∙ ap (λ (t : Bool). fold int_min (if◌then◌else◌ {A = ℤ} t x (int_min s.total x)) xs) (past (suc k) 0 (omega arith))

max-total : (k : ℕ) (s : Values) (xs : List ℤ) → (with_values Max (suc k) s xs).total ≡ fold int_max s.total xs
max-total k s [] = refl
max-total k s (x ∷ xs) = max-total (suc k) (with_value Max (suc k) s x) xs ∙ ap (λ (t : Bool). fold int_max (if◌then◌else◌ {A = ℤ} t x (int_max s.total x)) xs) (past (suc k) 0 (omega arith))

all-least : (xs : List ℤ) → (all_values Min xs).total ≡ least_of xs
all-least [] = refl
all-least (x ∷ xs) = min-total 0 (with_value Min 0 (no_values Min) x) xs

all-greatest : (xs : List ℤ) → (all_values Max xs).total ≡ greatest_of xs
all-greatest [] = refl
all-greatest (x ∷ xs) = max-total 0 (with_value Max 0 (no_values Max) x) xs

-- truth values
both : (p q : Bool) (t : ℤ) → (if q then (if p then t else pos 0) else pos 0) ≡ (if p && q then t else pos 0)
both true q t = refl
both false true t = refl
both false false t = refl

either : (p q : Bool) (t : ℤ) → (if q then pos 1 else (if p then pos 1 else t)) ≡ (if p || q then pos 1 else t)
either true true t = refl
either true false t = refl
either false q t = refl

as-truth : (p : Bool) → (if p then pos 1 else pos 0) ≡ truth p
as-truth true = refl
as-truth false = refl

and-total : (k : ℕ) (s : Values) (xs : List ℤ) → (with_values And k s xs).total ≡ (if list_all is_true xs then s.total else pos 0)
and-total k s [] = refl
and-total k s (x ∷ xs) = and-total (suc k) (with_value And k s x) xs ∙ both (is_true x) (list_all is_true xs) s.total

or-total : (k : ℕ) (s : Values) (xs : List ℤ) → (with_values Or k s xs).total ≡ (if list_any is_true xs then pos 1 else s.total)
or-total k s [] = refl
or-total k s (x ∷ xs) = or-total (suc k) (with_value Or k s x) xs ∙ either (is_true x) (list_any is_true xs) s.total

turned : (p b : Bool) (t : ℤ) → t ≡ truth b → (if p then flipped t else t) ≡ truth (if p then not b else b)
turned true true t h = ap flipped h
turned true false t h = ap flipped h
turned false b t h = h

odd : (p q b : Bool) → (if q then not (if p then not b else b) else (if p then not b else b)) ≡ (if (if p then not q else q) then not b else b)
odd true true true = refl
odd true true false = refl
odd true false b = refl
odd false q b = refl

xor-total : (k : ℕ) (s : Values) (b : Bool) (xs : List ℤ) → s.total ≡ truth b → (with_values Xor k s xs).total ≡ truth (if is_odd xs then not b else b)
xor-total k s b [] h = h
xor-total k s b (x ∷ xs) h =
    xor-total (suc k) (with_value Xor k s x) (if is_true x then not b else b) xs (turned (is_true x) b s.total h)
    ∙ ap truth (odd (is_true x) (is_odd xs) b)

kept-or-not : (p : Bool) → (if p then true else false) ≡ p
kept-or-not true = refl
kept-or-not false = refl

eq-step : (k : ℕ) (s : Values) (x : ℤ) → stepped Eq (suc k) s x ≡ (if int_eq x s.first then s.total else pos 0)
eq-step k s x = ap (λ (t : Bool). if◌then◌else◌ {A = ℤ} t (pos 1) (if int_eq x s.first then s.total else pos 0)) (past (suc k) 0 (omega arith))

eq-first : (k : ℕ) (s : Values) (x : ℤ) → (with_value Eq (suc k) s x).first ≡ s.first
eq-first k s x = ap (λ (t : Bool). if◌then◌else◌ {A = ℤ} t x s.first) (past (suc k) 0 (omega arith))

eq-total : (k : ℕ) (s : Values) (xs : List ℤ) → (with_values Eq (suc k) s xs).total ≡ (if list_all (λ y. int_eq y s.first) xs then s.total else pos 0)
eq-total k s [] = refl
eq-total k s (x ∷ xs) =
    eq-total (suc k) (with_value Eq (suc k) s x) xs
    ∙ ap (λ (f : ℤ). if◌then◌else◌ {A = ℤ} (list_all (λ y. int_eq y f) xs) (stepped Eq (suc k) s x) (pos 0)) (eq-first k s x)
    ∙ ap (λ (t : ℤ). if◌then◌else◌ {A = ℤ} (list_all (λ y. int_eq y s.first) xs) t (pos 0)) (eq-step k s x)
    ∙ both (int_eq x s.first) (list_all (λ y. int_eq y s.first) xs) s.total

same : (x : ℤ) → int_eq x x ≡ true
same x = grind (arith, ints, common_steps)

all-equal : (xs : List ℤ) → (all_values Eq xs).total ≡ truth (all_equal xs)
all-equal [] = refl
all-equal (x ∷ xs) =
    eq-total 0 (with_value Eq 0 (no_values Eq) x) xs
    ∙ as-truth (list_all (λ y. int_eq y x) xs)
    ∙ ap (λ (t : Bool). truth (t && list_all (λ y. int_eq y x) xs)) (sym (same x))

module _ (xs members : List ℤ) where
  -- every operator but those of sets
  pub all-node : (op : Op) → (op ≡ Set → ⊥) → (op ≡ In → ⊥) → (op ≡ NotIn → ⊥) → node_value op (all_values op xs) ≡ apply op xs members
  all-node Neg s i n = rw (all-first Neg xs) refl
  all-node Abs s i n = rw (all-first Abs xs) refl
  all-node Sqr s i n = rw (all-first Sqr xs) refl
  all-node Add s i n = add-total 0 (no_values Add) xs ∙ +ℤ_idl (sum_of xs)
  all-node Mul s i n = mul-total 0 (no_values Mul) xs
  all-node Sub s i n = rw (all-first Sub xs, all-second Sub xs) refl
  all-node Dist s i n = rw (all-first Dist xs, all-second Dist xs) refl
  all-node Div s i n = rw (all-first Div xs, all-second Div xs) refl
  all-node Mod s i n = rw (all-first Mod xs, all-second Mod xs) refl
  all-node Pow s i n = rw (all-first Pow xs, all-second Pow xs) refl
  all-node Min s i n = all-least xs
  all-node Max s i n = all-greatest xs
  all-node Lt s i n = rw (all-first Lt xs, all-second Lt xs) refl
  all-node Le s i n = rw (all-first Le xs, all-second Le xs) refl
  all-node Gt s i n = rw (all-first Gt xs, all-second Gt xs) refl
  all-node Ge s i n = rw (all-first Ge xs, all-second Ge xs) refl
  all-node Ne s i n = rw (all-first Ne xs, all-second Ne xs) refl
  all-node Eq s i n = all-equal xs
  all-node Set s i n = absurd (s refl)
  all-node In s i n = absurd (i refl)
  all-node NotIn s i n = absurd (n refl)
  all-node Not s i n = rw (all-first Not xs) refl
  all-node And s i n = and-total 0 (no_values And) xs ∙ as-truth (list_all is_true xs)
  all-node Or s i n = or-total 0 (no_values Or) xs ∙ as-truth (list_any is_true xs)
  all-node Xor s i n = xor-total 0 (no_values Xor) false xs refl ∙ ap truth (kept-or-not (is_odd xs))
  all-node Iff s i n = rw (all-first Iff xs, all-second Iff xs) refl
  all-node Imp s i n = rw (all-first Imp xs, all-second Imp xs) refl
  all-node If s i n = rw (all-first If xs, all-second If xs, all-third If xs) refl
