-- The meanings of the forms that compare values at small lists.
use Rattle.std.proofs.Common.{◌≡◌, ◌≢◌, ℤ, pos, negsuc, refl, true, false, ap, List, [], ◌∷◌, arith, inl, inr}
use Rattle.std.proofs.lemmas.Int.{ints}
use Rattle.xs_model.specs.declared.instance.Constraint.{Constraint}
use Rattle.xs_model.specs.declared.instance.Constraint.TheVariants.{AllDifferent, DifferentLists, DifferentMatrix, AllEqual, Ordered, Lex, LexMatrix, Instantiation}
use Rattle.xs_model.specs.declared.term.Term.TheVariants.{Int, Var}
use Rattle.xs_model.specs.declared.term.Rel.{Rel}
use Rattle.xs_model.specs.declared.term.Rel.TheVariants as rel
use Rattle.xs_model.specs.Comparing.{AreDifferent}
use Rattle.xs_model.specs.Instance.{Holds}
use Rattle.xs_model.specs.Lists.{columns, is_among}
use Rattle.xs_model.specs.Value.{at}
use Rattle.xs_model.proofs.PairLemmas.{pairs}

-- lists of two that differ at a place
abbrev first_of : List ℤ → ℤ
first_of xs = at xs 0

abbrev second_of : List ℤ → ℤ
second_of xs = at xs 1

by_first : (x y z w : ℤ) → x ≢ z → (x ∷ y ∷ []) ≢ (z ∷ w ∷ [])
by_first x y z w d = λ e. d (ap first_of e)

by_second : (x y z w : ℤ) → y ≢ w → (x ∷ y ∷ []) ≢ (z ∷ w ∷ [])
by_second x y z w d = λ e. d (ap second_of e)

-- columns of a matrix of two rows
two_columns : columns ((pos 1 ∷ pos 2 ∷ pos 3 ∷ []) ∷ (pos 4 ∷ pos 5 ∷ pos 6 ∷ []) ∷ []) ≡ (pos 1 ∷ pos 4 ∷ []) ∷ (pos 2 ∷ pos 5 ∷ []) ∷ (pos 3 ∷ pos 6 ∷ []) ∷ []
two_columns = refl

-- allDifferent: equal values are among the exceptions
abbrev but_zero : Constraint
but_zero = AllDifferent (0 ∷ 1 ∷ 2 ∷ []) (pos 0 ∷ [])

zeros : Holds but_zero (pos 0 ∷ pos 0 ∷ pos 0 ∷ [])
zeros = pairs (λ x y. x ≡ y → is_among (pos 0 ∷ []) x ≡ true) (pos 0 ∷ pos 0 ∷ pos 0 ∷ []) ((λ e. refl, (λ e. refl, tt)), ((λ e. refl, tt), (tt, tt)))

ones : Holds but_zero (pos 0 ∷ pos 1 ∷ pos 1 ∷ []) → ⊥
ones h = let r : false ≡ true = h 1 2 (pos 0) (omega arith) (omega arith) refl in cc

all_of_three : Holds (AllDifferent (0 ∷ 1 ∷ 2 ∷ []) []) (pos 2 ∷ pos 0 ∷ negsuc 0 ∷ [])
all_of_three = pairs (λ x y. x ≡ y → is_among [] x ≡ true) (pos 2 ∷ pos 0 ∷ negsuc 0 ∷ [])
    ((λ e. absurd (omega (arith, ints, e)), (λ e. absurd (omega (arith, ints, e)), tt)), ((λ e. absurd (omega (arith, ints, e)), tt), (tt, tt)))

first_and_last : Holds (AllDifferent (0 ∷ 1 ∷ 2 ∷ []) []) (pos 2 ∷ pos 0 ∷ pos 2 ∷ []) → ⊥
first_and_last h = let r : false ≡ true = h 0 2 (pos 0) (omega arith) (omega arith) refl in cc

one_variable_twice : Holds (AllDifferent (0 ∷ 0 ∷ []) []) (pos 7 ∷ []) → ⊥
one_variable_twice h = let r : false ≡ true = h 0 1 (pos 0) (omega arith) (omega arith) refl in cc

nothing_different : Holds (AllDifferent [] []) []
nothing_different = pairs (λ x y. x ≡ y → is_among [] x ≡ true) [] tt

-- allDifferent, lists: no two lists are equal
abbrev two_lists : Constraint
two_lists = DifferentLists ((0 ∷ 1 ∷ []) ∷ (2 ∷ 3 ∷ []) ∷ [])

at_the_second_place : Holds two_lists (pos 1 ∷ pos 2 ∷ pos 1 ∷ pos 3 ∷ [])
at_the_second_place = pairs (λ xs ys. xs ≢ ys) ((pos 1 ∷ pos 2 ∷ []) ∷ (pos 1 ∷ pos 3 ∷ []) ∷ []) ((by_second (pos 1) (pos 2) (pos 1) (pos 3) (λ e. omega (arith, ints, e)), tt), (tt, tt))

turned_round : Holds two_lists (pos 1 ∷ pos 2 ∷ pos 2 ∷ pos 1 ∷ [])
turned_round = pairs (λ xs ys. xs ≢ ys) ((pos 1 ∷ pos 2 ∷ []) ∷ (pos 2 ∷ pos 1 ∷ []) ∷ []) ((by_first (pos 1) (pos 2) (pos 2) (pos 1) (λ e. omega (arith, ints, e)), tt), (tt, tt))

same_lists : Holds two_lists (pos 1 ∷ pos 2 ∷ pos 1 ∷ pos 2 ∷ []) → ⊥
same_lists h = h 0 1 [] (omega arith) (omega arith) refl

first_and_third : Holds (DifferentLists ((0 ∷ []) ∷ (1 ∷ []) ∷ (2 ∷ []) ∷ [])) (pos 4 ∷ pos 5 ∷ pos 4 ∷ []) → ⊥
first_and_third h = h 0 2 [] (omega arith) (omega arith) refl

empty_lists : Holds (DifferentLists ([] ∷ [] ∷ [])) [] → ⊥
empty_lists h = h 0 1 [] (omega arith) (omega arith) refl

-- allDifferent, matrix: each row and each column
abbrev square : Constraint
square = DifferentMatrix ((0 ∷ 1 ∷ []) ∷ (2 ∷ 3 ∷ []) ∷ [])

two_differ : (x y : ℤ) → x ≢ y → AreDifferent (x ∷ y ∷ [])
two_differ x y d = pairs (λ u v. u ≢ v) (x ∷ y ∷ []) ((d, tt), (tt, tt))

latin : Holds square (pos 1 ∷ pos 2 ∷ pos 2 ∷ pos 1 ∷ [])
latin = (
  (two_differ (pos 1) (pos 2) (λ e. omega (arith, ints, e)), (two_differ (pos 2) (pos 1) (λ e. omega (arith, ints, e)), tt)),
  (two_differ (pos 1) (pos 2) (λ e. omega (arith, ints, e)), (two_differ (pos 2) (pos 1) (λ e. omega (arith, ints, e)), tt)),
)

equal_in_a_row : Holds square (pos 1 ∷ pos 1 ∷ pos 2 ∷ pos 3 ∷ []) → ⊥
equal_in_a_row h = h.0.0 0 1 (pos 0) (omega arith) (omega arith) refl

equal_in_a_column : Holds square (pos 1 ∷ pos 2 ∷ pos 1 ∷ pos 3 ∷ []) → ⊥
equal_in_a_column h = h.1.0 0 1 (pos 0) (omega arith) (omega arith) refl

one_row : Holds (DifferentMatrix ((0 ∷ 1 ∷ []) ∷ [])) (pos 1 ∷ pos 2 ∷ [])
one_row = ((two_differ (pos 1) (pos 2) (λ e. omega (arith, ints, e)), tt), (pairs (λ u v. u ≢ v) (pos 1 ∷ []) (tt, tt), (pairs (λ u v. u ≢ v) (pos 2 ∷ []) (tt, tt), tt)))

one_column : Holds (DifferentMatrix ((0 ∷ []) ∷ (1 ∷ []) ∷ [])) (pos 1 ∷ pos 1 ∷ []) → ⊥
one_column h = h.1.0 0 1 (pos 0) (omega arith) (omega arith) refl

-- allEqual
three_equal : Holds (AllEqual (0 ∷ 1 ∷ 2 ∷ [])) (pos 4 ∷ pos 4 ∷ pos 4 ∷ [])
three_equal = pairs (λ x y. x ≡ y) (pos 4 ∷ pos 4 ∷ pos 4 ∷ []) ((refl, (refl, tt)), ((refl, tt), (tt, tt)))

last_other : Holds (AllEqual (0 ∷ 1 ∷ 2 ∷ [])) (pos 4 ∷ pos 4 ∷ pos 5 ∷ []) → ⊥
last_other h = omega (arith, ints, h 1 2 (pos 0) (omega arith) (omega arith))

middle_other : Holds (AllEqual (0 ∷ 1 ∷ 2 ∷ [])) (pos 4 ∷ pos 5 ∷ pos 4 ∷ []) → ⊥
middle_other h = omega (arith, ints, h 0 1 (pos 0) (omega arith) (omega arith))

one_equal : Holds (AllEqual (0 ∷ [])) (pos 4 ∷ [])
one_equal = pairs (λ x y. x ≡ y) (pos 4 ∷ []) (tt, tt)

none_equal : Holds (AllEqual []) []
none_equal = pairs (λ x y. x ≡ y) [] tt

-- ordered: a length is added to its member before the comparison
apart_by_one : Holds (Ordered (0 ∷ 1 ∷ []) (Int (pos 1) ∷ []) rel.Lt) (pos 0 ∷ pos 2 ∷ [])
apart_by_one = (omega (arith, ints), tt)

too_close : Holds (Ordered (0 ∷ 1 ∷ []) (Int (pos 1) ∷ []) rel.Lt) (pos 0 ∷ pos 1 ∷ []) → ⊥
too_close h = omega (arith, ints, h.0)

falling : Holds (Ordered (0 ∷ 1 ∷ 2 ∷ []) [] rel.Ge) (pos 3 ∷ pos 3 ∷ negsuc 0 ∷ [])
falling = (omega (arith, ints), (omega (arith, ints), tt))

not_falling : Holds (Ordered (0 ∷ 1 ∷ 2 ∷ []) [] rel.Gt) (pos 3 ∷ pos 3 ∷ negsuc 0 ∷ []) → ⊥
not_falling h = omega (arith, ints, h.0)

by_a_variable : Holds (Ordered (0 ∷ 1 ∷ []) (Var 2 ∷ []) rel.Le) (pos 1 ∷ pos 4 ∷ pos 3 ∷ [])
by_a_variable = (omega (arith, ints), tt)

one_in_order : Holds (Ordered (0 ∷ []) [] rel.Lt) (pos 1 ∷ [])
one_in_order = tt

none_in_order : Holds (Ordered [] [] rel.Lt) []
none_in_order = tt

-- lex, lists: equal lists are in order under `le`, not under `lt`
abbrev lists : Rel → Constraint
lists r = Lex ((0 ∷ 1 ∷ []) ∷ (2 ∷ 3 ∷ []) ∷ []) r

equal_lists : Holds (lists rel.Le) (pos 1 ∷ pos 2 ∷ pos 1 ∷ pos 2 ∷ [])
equal_lists = (inl refl, tt)

later_place : Holds (lists rel.Gt) (pos 1 ∷ pos 3 ∷ pos 1 ∷ pos 2 ∷ [])
later_place = (inr (refl, inl (omega (arith, ints))), tt)

not_strictly : Holds (lists rel.Lt) (pos 1 ∷ pos 2 ∷ pos 1 ∷ pos 2 ∷ []) → ⊥
not_strictly h = elim h.0 [
  | inl l ↦ omega (arith, ints, l)
  | inr r ↦ elim r.1 [ inl l ↦ omega (arith, ints, l) | inr r ↦ r.1 ]
]

-- a later place does not make up for the first that differs
first_place_decides : Holds (lists rel.Lt) (pos 2 ∷ pos 0 ∷ pos 1 ∷ pos 9 ∷ []) → ⊥
first_place_decides h = elim h.0 [
  | inl l ↦ omega (arith, ints, l)
  | inr r ↦ omega (arith, ints, r.0)
]

empty_strictly : Holds (Lex ([] ∷ [] ∷ []) rel.Lt) [] → ⊥
empty_strictly h = h.0

empty_at_least : Holds (Lex ([] ∷ [] ∷ []) rel.Ge) []
empty_at_least = (inl refl, tt)

-- lex, matrix: rows and columns
abbrev matrix : Rel → Constraint
matrix r = LexMatrix ((0 ∷ 1 ∷ []) ∷ (2 ∷ 3 ∷ []) ∷ []) r

in_order : Holds (matrix rel.Lt) (pos 0 ∷ pos 1 ∷ pos 0 ∷ pos 2 ∷ [])
in_order = ((inr (refl, inl (omega (arith, ints))), tt), (inl (omega (arith, ints)), tt))

all_equal_rows : Holds (matrix rel.Le) (pos 3 ∷ pos 3 ∷ pos 3 ∷ pos 3 ∷ [])
all_equal_rows = ((inl refl, tt), (inl refl, tt))

rows_turned : Holds (matrix rel.Le) (pos 1 ∷ pos 1 ∷ pos 0 ∷ pos 2 ∷ []) → ⊥
rows_turned h = elim h.0.0 [
  | inl e ↦ omega (arith, ints, ap first_of e)
  | inr b ↦ elim b [ inl l ↦ omega (arith, ints, l) | inr r ↦ omega (arith, ints, r.0) ]
]

-- the rows are in order, the columns are not
columns_turned : Holds (matrix rel.Le) (pos 1 ∷ pos 0 ∷ pos 1 ∷ pos 1 ∷ []) → ⊥
columns_turned h = elim h.1.0 [
  | inl e ↦ omega (arith, ints, ap first_of e)
  | inr b ↦ elim b [ inl l ↦ omega (arith, ints, l) | inr r ↦ omega (arith, ints, r.0) ]
]

falling_rows : Holds (matrix rel.Gt) (pos 2 ∷ pos 1 ∷ pos 1 ∷ pos 0 ∷ [])
falling_rows = ((inl (omega (arith, ints)), tt), (inl (omega (arith, ints)), tt))

-- instantiation
each_value : Holds (Instantiation (0 ∷ 1 ∷ []) (pos 3 ∷ negsuc 0 ∷ [])) (pos 3 ∷ negsuc 0 ∷ [])
each_value = refl

by_another_order : Holds (Instantiation (1 ∷ 0 ∷ []) (pos 3 ∷ pos 4 ∷ [])) (pos 4 ∷ pos 3 ∷ [])
by_another_order = refl

second_value : Holds (Instantiation (0 ∷ 1 ∷ []) (pos 3 ∷ pos 4 ∷ [])) (pos 3 ∷ pos 5 ∷ []) → ⊥
second_value h = omega (arith, ints, ap second_of h)

twice_another_value : Holds (Instantiation (0 ∷ 0 ∷ []) (pos 3 ∷ pos 4 ∷ [])) (pos 3 ∷ []) → ⊥
twice_another_value h = omega (arith, ints, ap second_of h)

no_values : Holds (Instantiation [] []) []
no_values = refl
