-- What is among the values of a list, how many pass, and how many differ.
use Rattle.std.proofs.Common.{◌≡◌, ◌≢◌, ℕ, suc, ◌+◌, ◌<◌, ◌≤◌, inl, inr, ℤ, Bool, true, false, not, ◌&&◌, ◌||◌, List, [], ◌∷◌, length, refl, ap, ap₂, sym, ◌∙◌, subst, arith}
use Rattle.std.specs.Prelude.{filter, count_by, if◌then◌else◌}
use Rattle.std.specs.List.{AllByRecursion}
use Rattle.std.specs.List.Sorted.{IsPermutation}
use Rattle.std.specs.Ordering.{int_eq}
use Rattle.std.proofs.lemmas.Bool.{true≢false, cases_Bool, or_cases, not_from_false}
use Rattle.std.proofs.lemmas.Bool.Decides.{Decides-int_eq}
use Rattle.std.proofs.lemmas.List.Recursion.{is_count_by}
use Rattle.std.proofs.lemmas.List.Sorted.{sum_by-IsPermutation, list_any-IsPermutation}
use Rattle.xs_model.specs.Counting.{distinct, distinct_count, outside}
use Rattle.xs_model.specs.Lists.{is_among}
use Rattle.xs_model.specs.Value.{at}
use Rattle.xs_laws.specs.Indices.{count_below}
use Rattle.xs_laws.specs.Neighbours.{Pairwise}
use Rattle.xs_laws.proofs.Distinct.{eq_turned, count_front}
use Rattle.xs_laws.proofs.Neighbours.{differ}
use Rattle.xs_laws.proofs.Somes.{all_map, any_filter}

-- how many pass, by recursion
abbrev pub passes : {X : Type 0} → (X → Bool) → List X → ℕ
passes p [] = 0
passes p (x ∷ xs) = if p x then 1 + passes p xs else passes p xs

pub passes_is : {X : Type 0} (p : X → Bool) (xs : List X) → count_by p xs ≡ passes p xs
passes_is p xs = sym (is_count_by (passes p) p refl (λ x xs. refl) xs)

pub passes_yes : {X : Type 0} (p : X → Bool) (x : X) (xs : List X) → p x ≡ true → passes p (x ∷ xs) ≡ 1 + passes p xs
passes_yes p x xs h = rw h refl

pub passes_no : {X : Type 0} (p : X → Bool) (x : X) (xs : List X) → p x ≡ false → passes p (x ∷ xs) ≡ passes p xs
passes_no p x xs h = rw h refl

pub passes_permuted : {X : Type 0} (p : X → Bool) (xs ys : List X) → IsPermutation xs ys → passes p ys ≡ passes p xs
passes_permuted p xs ys h = sym (passes_is p ys) ∙ sum_by-IsPermutation (λ x. if p x then 1 else 0) xs ys h ∙ passes_is p xs

pub none_pass : {X : Type 0} (p : X → Bool) (xs : List X) → AllByRecursion (λ x. p x ≡ false) xs → passes p xs ≡ 0
none_pass p [] h = refl
none_pass p (x ∷ xs) h = passes_no p x xs h.0 ∙ none_pass p xs h.1

pub if_none_pass : {X : Type 0} (p : X → Bool) (xs : List X) → passes p xs ≡ 0 → AllByRecursion (λ x. p x ≡ false) xs
if_none_pass p [] h = tt
if_none_pass p (x ∷ xs) h = elim (cases_Bool (p x)) [
  | inl e ↦ absurd (let k = passes_yes p x xs e in omega arith)
  | inr e ↦ (e, if_none_pass p xs (sym (passes_no p x xs e) ∙ h))
]

pub passes_le : {X : Type 0} (p : X → Bool) (xs : List X) → passes p xs ≤ length xs
passes_le p [] = omega arith
passes_le p (x ∷ xs) = let r = passes_le p xs in elim (cases_Bool (p x)) [
  | inl e ↦ let k = passes_yes p x xs e in omega arith
  | inr e ↦ let k = passes_no p x xs e in omega arith
]

pub passes_all : {X : Type 0} (p : X → Bool) (xs : List X) → AllByRecursion (λ x. p x ≡ true) xs → passes p xs ≡ length xs
passes_all p [] h = refl
passes_all p (x ∷ xs) h = let k = passes_yes p x xs h.0 in let r = passes_all p xs h.1 in omega arith

pub if_all_pass : {X : Type 0} (p : X → Bool) (xs : List X) → passes p xs ≡ length xs → AllByRecursion (λ x. p x ≡ true) xs
if_all_pass p [] h = tt
if_all_pass p (x ∷ xs) h = elim (cases_Bool (p x)) [
  | inl e ↦ (e, if_all_pass p xs (let k = passes_yes p x xs e in omega arith))
  | inr e ↦ absurd (let k = passes_no p x xs e in let l = passes_le p xs in omega arith)
]

-- tests of which no two pass at once
pub passes_or : {X : Type 0} (p q r : X → Bool) (xs : List X) → ((x : X) → r x ≡ (p x || q x)) → ((x : X) → p x ≡ true → q x ≡ true → ⊥) → passes r xs ≡ passes p xs + passes q xs
passes_or p q r [] is apart = refl
passes_or p q r (x ∷ xs) is apart =
    let rest = passes_or p q r xs is apart in
    elim (cases_Bool (p x)) [
      | inl e ↦ elim (cases_Bool (q x)) [
        | inl f ↦ absurd (apart x e f)
        | inr f ↦
            let a = passes_yes p x xs e in
            let b = passes_no q x xs f in
            let c = passes_yes r x xs (is x ∙ ap (λ (t : Bool). t || q x) e) in omega arith
      ]
      | inr e ↦ elim (cases_Bool (q x)) [
        | inl f ↦
            let a = passes_no p x xs e in
            let b = passes_yes q x xs f in
            let c = passes_yes r x xs (is x ∙ ap₂ (λ (s t : Bool). s || t) e f) in omega arith
        | inr f ↦
            let a = passes_no p x xs e in
            let b = passes_no q x xs f in
            let c = passes_no r x xs (is x ∙ ap₂ (λ (s t : Bool). s || t) e f) in omega arith
      ]
    ]

-- how many pass, place by place
pub passes_below : (p : ℤ → Bool) (xs : List ℤ) → passes p xs ≡ count_below (λ j. p (at xs j)) (length xs)
passes_below p [] = refl
passes_below p (x ∷ xs) = turn (p x) (passes_below p xs) ∙ sym (count_front (λ j. p (at (x ∷ xs) j)) (length xs))
  where
    turn : (b : Bool) {m n : ℕ} → m ≡ n → (if b then 1 + m else m) ≡ (if b then suc n else n)
    turn true e = omega (arith, e)
    turn false e = e

-- members
pub all_among : (P : ℤ → Type 0) (xs : List ℤ) (x : ℤ) → AllByRecursion P xs → is_among xs x ≡ true → P x
all_among P [] x h m = absurd (true≢false (sym m))
all_among P (y ∷ xs) x h m = elim (or_cases (int_eq x y) (is_among xs x) m) [
  | inl here ↦ subst P (sym ((Decides-int_eq x y).0 here)) h.0
  | inr later ↦ all_among P xs x h.1 later
]

pub kept_among : (p : ℤ → Bool) (xs : List ℤ) (x : ℤ) → p x ≡ true → is_among (filter p xs) x ≡ is_among xs x
kept_among p xs x h = any_filter p (int_eq x) (int_eq x) (λ y. by y (int_eq x y) refl) xs
  where
    by : (y : ℤ) (t : Bool) → int_eq x y ≡ t → t ≡ (p y && t)
    by y true e = sym (ap (λ (b : Bool). b && true) (ap p (sym ((Decides-int_eq x y).0 e)) ∙ h))
    by y false e = none (p y)
      where
        none : (b : Bool) → false ≡ (b && false)
        none true = refl
        none false = refl

kept_le : (p : ℤ → Bool) (xs : List ℤ) → length (filter p xs) ≤ length xs
kept_le p [] = omega arith
kept_le p (x ∷ xs) = let r = kept_le p xs in elim (cases_Bool (p x)) [ inl e ↦ rw e (omega arith) | inr e ↦ rw e (omega arith) ]

fewer : (u : ℤ) (xs : List ℤ) → is_among xs u ≡ true → length (filter (λ y. not (int_eq u y)) xs) < length xs
fewer u [] m = absurd (true≢false (sym m))
fewer u (x ∷ xs) m = elim (cases_Bool (int_eq u x)) [
  | inl e ↦ let r = kept_le (λ y. not (int_eq u y)) xs in rw e (omega arith)
  | inr e ↦ let r = fewer u xs (elim (or_cases (int_eq u x) (is_among xs u) m) [ inl f ↦ absurd (true≢false (sym f ∙ e)) | inr later ↦ later ]) in rw e (omega arith)
]

-- different values that are all among others are at most as many
pub no_more : (us vs : List ℤ) → Pairwise (λ x y. x ≢ y) us → ((x : ℤ) → is_among us x ≡ true → is_among vs x ≡ true) → length us ≤ length vs
no_more [] vs apart h = omega arith
no_more (u ∷ us) vs apart h =
    let here : is_among vs u ≡ true = h u (ap (λ (b : Bool). b || is_among us u) ((Decides-int_eq u u).1 refl)) in
    let less = fewer u vs here in
    let rest = no_more us (filter (λ y. not (int_eq u y)) vs) apart.1
    (λ x m. kept_among (λ y. not (int_eq u y)) vs x (not_from_false (int_eq u x) ((differ u x).0 (all_among (λ y. u ≢ y) us x apart.0 m))) ∙ h x (later (int_eq x u) m)) in
    omega arith
  where
    later : (a : Bool) {b : Bool} → b ≡ true → (a || b) ≡ true
    later true e = refl
    later false e = e

filter_all : (P : ℤ → Type 0) (p : ℤ → Bool) (xs : List ℤ) → AllByRecursion P xs → AllByRecursion P (filter p xs)
filter_all P p [] h = tt
filter_all P p (x ∷ xs) h = elim (cases_Bool (p x)) [ inl e ↦ rw e (h.0, filter_all P p xs h.1) | inr e ↦ rw e (filter_all P p xs h.1) ]

filter_passed : (p : ℤ → Bool) (xs : List ℤ) → AllByRecursion (λ x. p x ≡ true) (filter p xs)
filter_passed p [] = tt
filter_passed p (x ∷ xs) = elim (cases_Bool (p x)) [ inl e ↦ rw e (e, filter_passed p xs) | inr e ↦ rw e (filter_passed p xs) ]

filter_pairs : (R : ℤ → ℤ → Type 0) (p : ℤ → Bool) (xs : List ℤ) → Pairwise R xs → Pairwise R (filter p xs)
filter_pairs R p [] h = tt
filter_pairs R p (x ∷ xs) h = elim (cases_Bool (p x)) [ inl e ↦ rw e (filter_all (R x) p xs h.0, filter_pairs R p xs h.1) | inr e ↦ rw e (filter_pairs R p xs h.1) ]

distinct_pairs : (xs : List ℤ) → Pairwise (λ x y. x ≢ y) (distinct xs)
distinct_pairs [] = tt
distinct_pairs (x ∷ xs) =
    let p : ℤ → Bool = λ y. not (int_eq x y) in (
      all_map (λ y. p y ≡ true) (λ y. x ≢ y) (filter p (distinct xs)) (λ y e f. true≢false (sym e ∙ ap not ((Decides-int_eq x y).1 f))) (filter_passed p (distinct xs)),
      filter_pairs (λ x y. x ≢ y) p (distinct xs) (distinct_pairs xs),
    )

distinct_among : (xs : List ℤ) (x : ℤ) → is_among (distinct xs) x ≡ is_among xs x
distinct_among [] x = refl
distinct_among (y ∷ xs) x = by (int_eq x y) refl (distinct_among xs x)
  where
    by : (t : Bool) → int_eq x y ≡ t → is_among (distinct xs) x ≡ is_among xs x → (t || is_among (filter (λ z. not (int_eq y z)) (distinct xs)) x) ≡ (t || is_among xs x)
    by true e rest = refl
    by false e rest = kept_among (λ z. not (int_eq y z)) (distinct xs) x (ap not (eq_turned y x ∙ e)) ∙ rest

outside_permuted : (except xs ys : List ℤ) (x : ℤ) → IsPermutation xs ys → is_among (outside except xs) x ≡ is_among (outside except ys) x
outside_permuted except xs ys x h =
    let p : ℤ → Bool = λ y. not (is_among except y) in
    let r : ℤ → Bool = λ y. p y && int_eq x y in
    any_filter p (int_eq x) r (λ y. refl) xs ∙ list_any-IsPermutation r xs ys h ∙ sym (any_filter p (int_eq x) r (λ y. refl) ys)

-- there are as many distinct values in another order
pub distinct_permuted : (except xs ys : List ℤ) → IsPermutation xs ys → distinct_count except xs ≡ distinct_count except ys
distinct_permuted except xs ys h =
    let us = outside except xs in
    let vs = outside except ys in
    let a = no_more (distinct us) (distinct vs) (distinct_pairs us) (λ x m. distinct_among vs x ∙ sym (outside_permuted except xs ys x h) ∙ sym (distinct_among us x) ∙ m) in
    let b = no_more (distinct vs) (distinct us) (distinct_pairs vs) (λ x m. distinct_among us x ∙ outside_permuted except xs ys x h ∙ sym (distinct_among vs x) ∙ m) in
    omega arith
