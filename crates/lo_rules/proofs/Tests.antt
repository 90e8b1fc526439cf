-- Tests of integers and lists of them, in the words of calls and in those of expressions.
use Rattle.std.proofs.Common.{◌≡◌, ◌≢◌, ◌⊎◌, inl, inr, zero, suc, ℤ, pos, negsuc, ◌≤ℤ◌, ◌-ℤ◌, Bool, true, false, not, ◌&&◌, ◌||◌, List, [], ◌∷◌, ◌++◌, length, map, fold, refl, ap, sym, ◌∙◌, arith, true≢false}
use Rattle.std.specs.Prelude.{int_le}
use Rattle.std.specs.List.{list_any, list_all}
use Rattle.std.specs.Int.{int_min, int_max}
use Rattle.std.specs.Ordering.{int_eq}
use Rattle.std.proofs.lemmas.Int.{ints, clamps}
use Rattle.fz_model.specs.Fixing.{IsBit}
use Rattle.fz_model.specs.Meaning.{truth, dot, is_one, is_least, is_greatest}
use Rattle.fz_model.proofs.Calls.{equal, equal_met}
use Rattle.xs_model.specs.Value.{is_true, sum_of, least_of, greatest_of}

pub both_true : (s t : Bool) → (s && t) ≡ true → (s ≡ true) × (t ≡ true)
both_true true true h = (refl, refl)
both_true true false h = absurd (true≢false (sym h))
both_true false t h = absurd (true≢false (sym h))

pub both_met : (s t : Bool) → s ≡ true → t ≡ true → (s && t) ≡ true
both_met true true h k = refl
both_met true false h k = k
both_met false t h k = h

pub either_true : (s t : Bool) → (s || t) ≡ true → (s ≡ true) ⊎ (t ≡ true)
either_true true t h = inl refl
either_true false t h = inr h

pub either_left : (s t : Bool) → s ≡ true → (s || t) ≡ true
either_left true t h = refl
either_left false t h = absurd (true≢false (sym h))

pub either_right : (s t : Bool) → t ≡ true → (s || t) ≡ true
either_right true t h = refl
either_right false t h = h

-- two tests that each follow from the other are the same
pub same_test : (s t : Bool) → (s ≡ true → t ≡ true) → (t ≡ true → s ≡ true) → s ≡ t
same_test true true h k = refl
same_test true false h k = sym (h refl)
same_test false true h k = k refl
same_test false false h k = refl

pub eq_turned : (x y : ℤ) → int_eq x y ≡ int_eq y x
eq_turned x y = same_test (int_eq x y) (int_eq y x) (λ h. equal_met y x (sym (equal x y h))) (λ h. equal_met x y (sym (equal y x h)))

pub le_is : (x y : ℤ) → int_le x y ≡ true → x ≤ℤ y
le_is x y h = omega (arith, ints)

pub le_met : (x y : ℤ) → x ≤ℤ y → int_le x y ≡ true
le_met x y h = by (int_le x y) refl
  where
    by : (t : Bool) → int_le x y ≡ t → int_le x y ≡ true
    by true e = e
    by false e = absurd (omega (arith, ints, h, e))

pub truth_one : (t : Bool) → truth t ≡ pos 1 → t ≡ true
truth_one true h = refl
truth_one false h = absurd (omega (arith, ints))

pub one_is : (x : ℤ) → is_one x ≡ is_true x
one_is x = eq_turned (pos 1) x

pub all_ones : (xs : List ℤ) → list_all is_one xs ≡ list_all is_true xs
all_ones [] = refl
all_ones (x ∷ xs) = ap (λ (t : Bool). t && list_all is_one xs) (one_is x) ∙ ap (λ (t : Bool). is_true x && t) (all_ones xs)

pub any_ones : (xs : List ℤ) → list_any is_one xs ≡ list_any is_true xs
any_ones [] = refl
any_ones (x ∷ xs) = ap (λ (t : Bool). t || list_any is_one xs) (one_is x) ∙ ap (λ (t : Bool). is_true x || t) (any_ones xs)

-- 0 and 1
pub bit_is : (x : ℤ) → IsBit x → x ≡ truth (is_true x)
bit_is x h = elim h [
  | inl e ↦ e ∙ sym (ap (λ (y : ℤ). truth (is_true y)) e)
  | inr e ↦ e ∙ sym (ap (λ (y : ℤ). truth (is_true y)) e)
]

pub bit_between : (x : ℤ) → pos 0 ≤ℤ x → x ≤ℤ pos 1 → IsBit x
bit_between (pos zero) h k = inl refl
bit_between (pos (suc zero)) h k = inr refl
bit_between (pos (suc (suc n))) h k = absurd (omega (arith, ints))
bit_between (negsuc n) h k = absurd (omega (arith, ints))

-- the truth value that differs from this one
pub other_truth : (t : Bool) (x : ℤ) → IsBit x → truth t ≢ x → x ≡ truth (not t)
other_truth true x h d = elim h [ inl e ↦ e | inr e ↦ absurd (d (sym e)) ]
other_truth false x h d = elim h [ inl e ↦ absurd (d (sym e)) | inr e ↦ e ]

pub truths_differ : (t : Bool) → truth t ≢ truth (not t)
truths_differ true h = absurd (omega (arith, ints))
truths_differ false h = absurd (omega (arith, ints))

-- sums
pub dot_ones : {X : Type 0} (os : List X) (xs : List ℤ) (z : ℤ) → length os ≡ length xs → dot (map (λ (o : X). pos 1) os ++ (negsuc 0 ∷ [])) (xs ++ (z ∷ [])) ≡ sum_of xs -ℤ z
dot_ones [] [] z h = omega (arith, ints)
dot_ones [] (x ∷ xs) z h = absurd (omega arith)
dot_ones (o ∷ os) [] z h = absurd (omega arith)
dot_ones (o ∷ os) (x ∷ xs) z h = let rest = dot_ones os xs z (omega arith) in omega (arith, ints, rest)

-- the least member
under_all : (m n : ℤ) (xs : List ℤ) → list_all (int_le m) xs ≡ true → list_any (int_eq n) xs ≡ true → m ≤ℤ n
under_all m n [] h k = absurd (true≢false (sym k))
under_all m n (x ∷ xs) h k =
    let hs = both_true (int_le m x) (list_all (int_le m) xs) h in
    elim (either_true (int_eq n x) (list_any (int_eq n) xs) k) [
      | inl e ↦ (let same = equal n x e in let low = le_is m x hs.0 in omega (arith, ints, low, same))
      | inr e ↦ under_all m n xs hs.1 e
    ]

pub least_unique : (m n : ℤ) (xs : List ℤ) → is_least m xs ≡ true → is_least n xs ≡ true → m ≡ n
least_unique m n xs h k =
    let hs = both_true (list_any (int_eq m) xs) (list_all (int_le m) xs) h in
    let ks = both_true (list_any (int_eq n) xs) (list_all (int_le n) xs) k in
    let one = under_all m n xs hs.1 ks.0 in
    let other = under_all n m xs ks.1 hs.0 in
    omega (arith, ints, one, other)

least_low : (x : ℤ) (xs : List ℤ) → (fold int_min x xs ≤ℤ x) × (list_all (int_le (fold int_min x xs)) xs ≡ true)
least_low x [] = (omega (arith, ints), refl)
least_low x (y ∷ xs) =
    let rest = least_low (int_min x y) xs in
    let low = rest.0 in
    (omega (arith, ints, clamps, low), both_met _ _ (le_met (fold int_min (int_min x y) xs) y (omega (arith, ints, clamps, low))) rest.1)

least_member : (x : ℤ) (xs : List ℤ) → (fold int_min x xs ≡ x) ⊎ (list_any (int_eq (fold int_min x xs)) xs ≡ true)
least_member x [] = inl refl
least_member x (y ∷ xs) =
    elim (least_member (int_min x y) xs) [
      | inl e ↦ elim (min_one x y) [ inl f ↦ inl (e ∙ f) | inr f ↦ inr (either_left (int_eq (fold int_min (int_min x y) xs) y) _ (equal_met _ y (e ∙ f))) ]
      | inr e ↦ inr (either_right (int_eq (fold int_min (int_min x y) xs) y) _ e)
    ]
  where
    min_one : (x y : ℤ) → (int_min x y ≡ x) ⊎ (int_min x y ≡ y)
    min_one x y = by (int_le x y) refl where
      by : (t : Bool) → int_le x y ≡ t → (int_min x y ≡ x) ⊎ (int_min x y ≡ y)
      by true e = let h = le_is x y e in inl (omega (arith, ints, clamps, h))
      by false e = inr (omega (arith, ints, clamps, e))

pub least_of_is : (xs : List ℤ) → xs ≢ [] → is_least (least_of xs) xs ≡ true
least_of_is [] h = absurd (h refl)
least_of_is (x ∷ xs) h =
    let low = least_low x xs in
    let m : ℤ = fold int_min x xs in
    both_met (list_any (int_eq m) (x ∷ xs)) (list_all (int_le m) (x ∷ xs))
    (elim (least_member x xs) [ inl e ↦ either_left (int_eq m x) (list_any (int_eq m) xs) (equal_met m x e) | inr e ↦ either_right (int_eq m x) (list_any (int_eq m) xs) e ])
    (both_met _ _ (le_met m x low.0) low.1)

-- the greatest member
over_all : (m n : ℤ) (xs : List ℤ) → list_all (λ x. int_le x m) xs ≡ true → list_any (int_eq n) xs ≡ true → n ≤ℤ m
over_all m n [] h k = absurd (true≢false (sym k))
over_all m n (x ∷ xs) h k =
    let hs = both_true (int_le x m) (list_all (λ x. int_le x m) xs) h in
    elim (either_true (int_eq n x) (list_any (int_eq n) xs) k) [
      | inl e ↦ (let same = equal n x e in let high = le_is x m hs.0 in omega (arith, ints, high, same))
      | inr e ↦ over_all m n xs hs.1 e
    ]

pub greatest_unique : (m n : ℤ) (xs : List ℤ) → is_greatest m xs ≡ true → is_greatest n xs ≡ true → m ≡ n
greatest_unique m n xs h k =
    let hs = both_true (list_any (int_eq m) xs) (list_all (λ x. int_le x m) xs) h in
    let ks = both_true (list_any (int_eq n) xs) (list_all (λ x. int_le x n) xs) k in
    let one = over_all m n xs hs.1 ks.0 in
    let other = over_all n m xs ks.1 hs.0 in
    omega (arith, ints, one, other)

greatest_high : (x : ℤ) (xs : List ℤ) → (x ≤ℤ fold int_max x xs) × (list_all (λ y. int_le y (fold int_max x xs)) xs ≡ true)
greatest_high x [] = (omega (arith, ints), refl)
greatest_high x (y ∷ xs) =
    let rest = greatest_high (int_max x y) xs in
    let high = rest.0 in
    (omega (arith, ints, clamps, high), both_met _ _ (le_met y (fold int_max (int_max x y) xs) (omega (arith, ints, clamps, high))) rest.1)

greatest_member : (x : ℤ) (xs : List ℤ) → (fold int_max x xs ≡ x) ⊎ (list_any (int_eq (fold int_max x xs)) xs ≡ true)
greatest_member x [] = inl refl
greatest_member x (y ∷ xs) =
    elim (greatest_member (int_max x y) xs) [
      | inl e ↦ elim (max_one x y) [ inl f ↦ inl (e ∙ f) | inr f ↦ inr (either_left (int_eq (fold int_max (int_max x y) xs) y) _ (equal_met _ y (e ∙ f))) ]
      | inr e ↦ inr (either_right (int_eq (fold int_max (int_max x y) xs) y) _ e)
    ]
  where
    max_one : (x y : ℤ) → (int_max x y ≡ x) ⊎ (int_max x y ≡ y)
    max_one x y = by (int_le x y) refl where
      by : (t : Bool) → int_le x y ≡ t → (int_max x y ≡ x) ⊎ (int_max x y ≡ y)
      by true e = let h = le_is x y e in inr (omega (arith, ints, clamps, h))
      by false e = inl (omega (arith, ints, clamps, e))

pub greatest_of_is : (xs : List ℤ) → xs ≢ [] → is_greatest (greatest_of xs) xs ≡ true
greatest_of_is [] h = absurd (h refl)
greatest_of_is (x ∷ xs) h =
    let high = greatest_high x xs in
    let m : ℤ = fold int_max x xs in
    both_met (list_any (int_eq m) (x ∷ xs)) (list_all (λ y. int_le y m) (x ∷ xs))
    (elim (greatest_member x xs) [ inl e ↦ either_left (int_eq m x) (list_any (int_eq m) xs) (equal_met m x e) | inr e ↦ either_right (int_eq m x) (list_any (int_eq m) xs) e ])
    (both_met _ _ (le_met x m high.0) high.1)

-- truth values as numbers, and back
pub one_truth : (t : Bool) → is_one (truth t) ≡ t
one_truth true = refl
one_truth false = refl

pub truths_within : (t : Bool) → (pos 0 ≤ℤ truth t) × (truth t ≤ℤ pos 1)
truths_within true = (omega (arith, ints), omega (arith, ints))
truths_within false = (omega (arith, ints), omega (arith, ints))
