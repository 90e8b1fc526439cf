-- Lists that are compared pair by pair or neighbour by neighbour (XCSP3-core, "allDifferent", "allEqual", "ordered",
-- "instantiation").
use Rattle.std.specs.Prelude.{◌≡◌, ◌↔◌, ℕ, suc, ℤ, pos, negsuc, neg_ℤ, ◌+ℤ◌, ◌-ℤ◌, ◌≤ℤ◌, List, [], ◌∷◌, length, Bool, true, false, not, ⊤}
use Rattle.std.specs.List.{AllByRecursion, AllZip, list_any}
use Rattle.std.specs.Ordering.{int_eq}
use Rattle.xs_model.specs.declared.term.Rel.{Rel}
use Rattle.xs_model.specs.declared.term.Rel.TheVariants.{Lt, Le, Ge, Gt}
use Rattle.xs_model.specs.Comparing.{AreDifferent, AreDifferentBut, AreDifferentLists, AreDifferentLines, AreEqual, IsOrdered}
use Rattle.xs_model.specs.Conditions.{Related}
use Rattle.xs_model.specs.Counting.{weighted_sum}
use Rattle.xs_model.specs.Lists.{is_among, Consecutive, columns}

-- R holds of each member and each later one, by recursion
abbrev pub Pairwise : {X : Type 0} → (X → X → Type 0) → List X → Type 0
Pairwise R [] = ⊤
Pairwise R (x ∷ xs) = AllByRecursion (R x) xs × Pairwise R xs

-- each two of them differ
abbrev pub ArePairsDifferent : List ℤ → Type 0
ArePairsDifferent xs = Pairwise (λ x y. int_eq x y ≡ false) xs

-- the law: this is that all are different
abbrev pub DifferentLaw : Type 0
DifferentLaw = (xs : List ℤ) → AreDifferent xs ↔ ArePairsDifferent xs

-- of each two of them that are equal the first is an exception
abbrev pub ArePairsDifferentBut : List ℤ → List ℤ → Type 0
ArePairsDifferentBut except xs = Pairwise (λ x y. int_eq x y ≡ true → is_among except x ≡ true) xs

-- the law: this is that all are different but the exceptions
abbrev pub DifferentButLaw : Type 0
DifferentButLaw = (except xs : List ℤ) → AreDifferentBut except xs ↔ ArePairsDifferentBut except xs

-- for each place whether the lists differ there
abbrev pub differences : List ℤ → List ℤ → List Bool
differences [] ys = []
differences (x ∷ xs) [] = []
differences (x ∷ xs) (y ∷ ys) = not (int_eq x y) ∷ differences xs ys

-- of each two of the lists some place differs
abbrev pub ArePairsOfListsDifferent : List (List ℤ) → Type 0
ArePairsOfListsDifferent lists = Pairwise (λ xs ys. list_any (λ b. b) (differences xs ys) ≡ true) lists

-- the law: lists of one length are different where this holds
abbrev pub DifferentListsLaw : Type 0
DifferentListsLaw = (n : ℕ) (lists : List (List ℤ)) → AllByRecursion (λ xs. length xs ≡ n) lists → AreDifferentLists lists ↔ ArePairsOfListsDifferent lists

-- each two of each row differ, and each two of each column
abbrev pub ArePairsOfLinesDifferent : List (List ℤ) → Type 0
ArePairsOfLinesDifferent rows = AllByRecursion ArePairsDifferent rows × AllByRecursion ArePairsDifferent (columns rows)

-- the law: this is that rows and columns have different values
abbrev pub DifferentLinesLaw : Type 0
DifferentLinesLaw = (rows : List (List ℤ)) → AreDifferentLines rows ↔ ArePairsOfLinesDifferent rows

-- each is equal to the next
abbrev pub AreNeighboursEqual : List ℤ → Type 0
AreNeighboursEqual xs = Consecutive (λ x y. x ≡ y) xs

-- the law: then all are equal
abbrev pub EqualLaw : Type 0
EqualLaw = (xs : List ℤ) → AreEqual xs ↔ AreNeighboursEqual xs

-- each value is the one that is given for its place
abbrev pub AreGiven : List ℤ → List ℤ → Type 0
AreGiven xs vs = AllZip (λ x v. x ≡ v) xs vs

-- the law: then the lists are the same
abbrev pub GivenLaw : Type 0
GivenLaw = (xs vs : List ℤ) → (xs ≡ vs) ↔ AreGiven xs vs

-- each stands so to the next
abbrev pub AreNeighboursRelated : Rel → List ℤ → Type 0
AreNeighboursRelated rel xs = Consecutive (Related rel) xs

-- the law: then they are ordered, without lengths
abbrev pub OrderedLaw : Type 0
OrderedLaw = (rel : Rel) (xs : List ℤ) → IsOrdered rel [] xs ↔ AreNeighboursRelated rel xs

-- R holds of each value but the last, the length beside it, and the next value
abbrev pub Spaced : (ℤ → ℤ → ℤ → Type 0) → List ℤ → List ℤ → Type 0
Spaced R ls [] = ⊤
Spaced R ls (x ∷ []) = ⊤
Spaced R [] (x ∷ y ∷ xs) = ⊥
Spaced R (l ∷ ls) (x ∷ y ∷ xs) = R x l y × Spaced R ls (y ∷ xs)

-- x plus l stands so to y, as an inequality of x and y
abbrev pub IsStep : Rel → ℤ → ℤ → ℤ → Type 0
IsStep Lt x l y = weighted_sum (pos 1 ∷ negsuc 0 ∷ []) (x ∷ y ∷ []) ≤ℤ (neg_ℤ l -ℤ pos 1)
IsStep Le x l y = weighted_sum (pos 1 ∷ negsuc 0 ∷ []) (x ∷ y ∷ []) ≤ℤ neg_ℤ l
IsStep Ge x l y = weighted_sum (negsuc 0 ∷ pos 1 ∷ []) (x ∷ y ∷ []) ≤ℤ l
IsStep Gt x l y = weighted_sum (negsuc 0 ∷ pos 1 ∷ []) (x ∷ y ∷ []) ≤ℤ (l -ℤ pos 1)

-- the same as an inequality of x, l and y
abbrev pub IsStepBy : Rel → ℤ → ℤ → ℤ → Type 0
IsStepBy Lt x l y = weighted_sum (pos 1 ∷ pos 1 ∷ negsuc 0 ∷ []) (x ∷ l ∷ y ∷ []) ≤ℤ negsuc 0
IsStepBy Le x l y = weighted_sum (pos 1 ∷ pos 1 ∷ negsuc 0 ∷ []) (x ∷ l ∷ y ∷ []) ≤ℤ pos 0
IsStepBy Ge x l y = weighted_sum (negsuc 0 ∷ negsuc 0 ∷ pos 1 ∷ []) (x ∷ l ∷ y ∷ []) ≤ℤ pos 0
IsStepBy Gt x l y = weighted_sum (negsuc 0 ∷ negsuc 0 ∷ pos 1 ∷ []) (x ∷ l ∷ y ∷ []) ≤ℤ negsuc 0

-- the law: both say that x plus l stands so to y
abbrev pub StepLaw : Type 0
StepLaw = (rel : Rel) (x l y : ℤ) → (Related rel (x +ℤ l) y ↔ IsStep rel x l y) × (Related rel (x +ℤ l) y ↔ IsStepBy rel x l y)

-- the law: with a length for each value but the last, lists are ordered where each value plus its length stands so to
-- the next
abbrev pub OrderedByLaw : Type 0
OrderedByLaw = (rel : Rel) (ls xs : List ℤ) → length xs ≡ suc (length ls) → IsOrdered rel ls xs ↔ Spaced (λ x l y. Related rel (x +ℤ l) y) ls xs
