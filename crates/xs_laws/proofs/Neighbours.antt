-- Pairs and neighbours.
use Rattle.std.proofs.Common.{◌≡◌, ◌≢◌, ◌↔◌, zero, suc, inl, inr, ℤ, true, false, List, [], ◌∷◌, length, refl, ap, ap₂, sym, ◌∙◌, subst, arith}
use Rattle.std.specs.List.{AllByRecursion, AllZip, AllPairs, list_any}
use Rattle.std.specs.Ordering.{int_eq}
use Rattle.std.proofs.lemmas.Bool.{true≢false, cases_Bool, false_from_ne_true}
use Rattle.std.proofs.lemmas.Bool.Decides.{Decides-int_eq}
use Rattle.std.proofs.lemmas.Int.{ints}
use Rattle.xs_model.specs.declared.term.Rel.TheVariants.{Lt, Le, Ge, Gt}
use Rattle.xs_model.specs.Comparing.{AreDifferent}
use Rattle.xs_model.specs.Lists.{is_among, Consecutive, columns}
use Rattle.xs_laws.specs.Neighbours.{Pairwise, ArePairsDifferent, DifferentLaw, DifferentButLaw, differences, DifferentListsLaw, DifferentLinesLaw, EqualLaw, GivenLaw, OrderedLaw, StepLaw, OrderedByLaw}
use Rattle.xs_laws.proofs.Places.{all_of, all_at}
use Rattle.xs_laws.proofs.Somes.{all_map}

-- between pairs by places and pairs by recursion
pub pairwise_of : {X : Type 0} (R : X → X → Type 0) (xs : List X) → AllPairs R xs → Pairwise R xs
pairwise_of R [] h = tt
pairwise_of R (x ∷ xs) h = (all_of (R x) xs x (λ i lt. h 0 (suc i) x (omega arith) (omega arith)), pairwise_of R xs (λ i j d lt hj. h (suc i) (suc j) d (omega arith) (omega arith)))

pub pairs_of : {X : Type 0} (R : X → X → Type 0) (xs : List X) → Pairwise R xs → AllPairs R xs
pairs_of R [] h i j d lt hj = absurd (omega arith)
pairs_of R (x ∷ xs) h i zero d lt hj = absurd (omega arith)
pairs_of R (x ∷ xs) h zero (suc j) d lt hj = all_at (R x) xs j d h.0 (omega arith)
pairs_of R (x ∷ xs) h (suc i) (suc j) d lt hj = pairs_of R xs h.1 i j d (omega arith) (omega arith)

pub pairwise_map : {X : Type 0} (R S : X → X → Type 0) (xs : List X) → ((x y : X) → R x y → S x y) → Pairwise R xs → Pairwise S xs
pairwise_map R S [] f h = tt
pairwise_map R S (x ∷ xs) f h = (all_map (R x) (S x) xs (f x) h.0, pairwise_map R S xs f h.1)

-- pairs by places are pairs by recursion, in other words
pub pairs_as : {X : Type 0} (R S : X → X → Type 0) (xs : List X) → ((x y : X) → R x y ↔ S x y) → AllPairs R xs ↔ Pairwise S xs
pairs_as R S xs f = (λ h. pairwise_map R S xs (λ x y. (f x y).0) (pairwise_of R xs h), λ h. pairs_of R xs (pairwise_map S R xs (λ x y. (f x y).1) h))

pub differ : (x y : ℤ) → (x ≢ y) ↔ (int_eq x y ≡ false)
differ x y = (λ ne. false_from_ne_true (int_eq x y) (λ t. ne ((Decides-int_eq x y).0 t)), λ f e. true≢false (sym ((Decides-int_eq x y).1 e) ∙ f))

pub different_is_pairs : DifferentLaw
different_is_pairs xs = pairs_as (λ x y. x ≢ y) (λ x y. int_eq x y ≡ false) xs differ

pub different_but_is_pairs : DifferentButLaw
different_but_is_pairs except xs = pairs_as (λ x y. x ≡ y → is_among except x ≡ true) (λ x y. int_eq x y ≡ true → is_among except x ≡ true) xs
    (λ x y. (λ h t. h ((Decides-int_eq x y).0 t), λ h e. h ((Decides-int_eq x y).1 e)))

-- lists of one length differ where some place does
some_differ : (xs ys : List ℤ) → length xs ≡ length ys → (xs ≢ ys) → list_any (λ b. b) (differences xs ys) ≡ true
some_differ [] [] many ne = absurd (ne refl)
some_differ [] (y ∷ ys) many ne = absurd (omega arith)
some_differ (x ∷ xs) [] many ne = absurd (omega arith)
some_differ (x ∷ xs) (y ∷ ys) many ne = elim (cases_Bool (int_eq x y)) [
  | inl e ↦ rw e (some_differ xs ys (omega arith) (λ rest. ne (ap₂ (λ (z : ℤ) (zs : List ℤ). z ∷ zs) ((Decides-int_eq x y).0 e) rest)))
  | inr f ↦ rw f refl
]

none_differs : (xs : List ℤ) → list_any (λ b. b) (differences xs xs) ≡ false
none_differs [] = refl
none_differs (x ∷ xs) = rw ((Decides-int_eq x x).1 refl) (none_differs xs)

pub lists_differ : (xs ys : List ℤ) → length xs ≡ length ys → (xs ≢ ys) ↔ (list_any (λ b. b) (differences xs ys) ≡ true)
lists_differ xs ys many = (some_differ xs ys many, λ h e. true≢false (sym h ∙ ap (λ (zs : List ℤ). list_any (λ b. b) (differences xs zs)) (sym e) ∙ none_differs xs))

-- the same of lists that are known to have a property
pub pairwise_among : {X : Type 0} (Q : X → Type 0) (R S : X → X → Type 0) (xs : List X) → AllByRecursion Q xs → ((x y : X) → Q x → Q y → R x y → S x y) → Pairwise R xs → Pairwise S xs
pairwise_among Q R S [] q f h = tt
pairwise_among {X = X} Q R S (x ∷ xs) q f h = (both xs q.1 h.0, pairwise_among Q R S xs q.1 f h.1)
  where
    both : (ys : List X) → AllByRecursion Q ys → AllByRecursion (R x) ys → AllByRecursion (S x) ys
    both [] g k = tt
    both (y ∷ ys) g k = (f x y q.0 g.0 k.0, both ys g.1 k.1)

pub different_lists_is_pairs : DifferentListsLaw
different_lists_is_pairs n lists all =
    let S : List ℤ → List ℤ → Type 0 = λ xs ys. list_any (λ b. b) (differences xs ys) ≡ true in (
      λ h. pairwise_among (λ xs. length xs ≡ n) (λ xs ys. xs ≢ ys) S lists all (λ xs ys a b. (lists_differ xs ys (a ∙ sym b)).0) (pairwise_of (λ xs ys. xs ≢ ys) lists h),
      λ h. pairs_of (λ xs ys. xs ≢ ys) lists (pairwise_among (λ xs. length xs ≡ n) S (λ xs ys. xs ≢ ys) lists all (λ xs ys a b. (lists_differ xs ys (a ∙ sym b)).1) h),
    )

pub different_lines_is_pairs : DifferentLinesLaw
different_lines_is_pairs rows = (
  λ h. (all_map AreDifferent ArePairsDifferent rows (λ xs. (different_is_pairs xs).0) h.0, all_map AreDifferent ArePairsDifferent (columns rows) (λ xs. (different_is_pairs xs).0) h.1),
  λ h. (all_map ArePairsDifferent AreDifferent rows (λ xs. (different_is_pairs xs).1) h.0, all_map ArePairsDifferent AreDifferent (columns rows) (λ xs. (different_is_pairs xs).1) h.1),
)

-- neighbours
equal_neighbours : (xs : List ℤ) → Pairwise (λ x y. x ≡ y) xs → Consecutive (λ x y. x ≡ y) xs
equal_neighbours [] h = tt
equal_neighbours (x ∷ []) h = tt
equal_neighbours (x ∷ y ∷ xs) h = (h.0.0, equal_neighbours (y ∷ xs) h.1)

equal_pairs : (xs : List ℤ) → Consecutive (λ x y. x ≡ y) xs → Pairwise (λ x y. x ≡ y) xs
equal_pairs [] h = tt
equal_pairs (x ∷ []) h = (tt, tt)
equal_pairs (x ∷ y ∷ xs) h = let r = equal_pairs (y ∷ xs) h.1 in ((h.0, all_map (λ z. y ≡ z) (λ z. x ≡ z) xs (λ z e. h.0 ∙ e) r.0), r)

pub equal_is_neighbours : EqualLaw
equal_is_neighbours xs = (λ h. equal_neighbours xs (pairwise_of (λ x y. x ≡ y) xs h), λ h. pairs_of (λ x y. x ≡ y) xs (equal_pairs xs h))

given_each : (xs : List ℤ) → AllZip (λ x v. x ≡ v) xs xs
given_each [] = tt
given_each (x ∷ xs) = (refl, given_each xs)

given_all : (xs vs : List ℤ) → AllZip (λ x v. x ≡ v) xs vs → xs ≡ vs
given_all [] [] h = refl
given_all [] (v ∷ vs) h = absurd h
given_all (x ∷ xs) [] h = absurd h
given_all (x ∷ xs) (v ∷ vs) h = ap₂ (λ (z : ℤ) (zs : List ℤ). z ∷ zs) h.0 (given_all xs vs h.1)

pub given_is_each : GivenLaw
given_is_each xs vs = (λ e. subst (λ (zs : List ℤ). AllZip (λ x v. x ≡ v) xs zs) e (given_each xs), given_all xs vs)

pub ordered_is_neighbours : OrderedLaw
ordered_is_neighbours rel [] = (λ h. tt, λ h. tt)
ordered_is_neighbours rel (x ∷ []) = (λ h. tt, λ h. tt)
ordered_is_neighbours rel (x ∷ y ∷ xs) = let rest = ordered_is_neighbours rel (y ∷ xs) in (λ h. (h.0, rest.0 h.1), λ h. (h.0, rest.1 h.1))

pub ordered_is_spaced : OrderedByLaw
ordered_is_spaced rel ls [] many = (λ h. tt, λ h. tt)
ordered_is_spaced rel ls (x ∷ []) many = (λ h. tt, λ h. tt)
ordered_is_spaced rel [] (x ∷ y ∷ xs) many = absurd (omega arith)
ordered_is_spaced rel (l ∷ ls) (x ∷ y ∷ xs) many = let rest = ordered_is_spaced rel ls (y ∷ xs) (omega arith) in (λ h. (h.0, rest.0 h.1), λ h. (h.0, rest.1 h.1))

pub step_is_linear : StepLaw
step_is_linear Lt x l y = ((λ h. omega (arith, ints, h), λ h. omega (arith, ints, h)), (λ h. omega (arith, ints, h), λ h. omega (arith, ints, h)))
step_is_linear Le x l y = ((λ h. omega (arith, ints, h), λ h. omega (arith, ints, h)), (λ h. omega (arith, ints, h), λ h. omega (arith, ints, h)))
step_is_linear Ge x l y = ((λ h. omega (arith, ints, h), λ h. omega (arith, ints, h)), (λ h. omega (arith, ints, h), λ h. omega (arith, ints, h)))
step_is_linear Gt x l y = ((λ h. omega (arith, ints, h), λ h. omega (arith, ints, h)), (λ h. omega (arith, ints, h), λ h. omega (arith, ints, h)))
