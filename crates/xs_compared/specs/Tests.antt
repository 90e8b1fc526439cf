-- Tests of pairs and of neighbours of a list, and of the columns of a matrix.
use Rattle.std.specs.Prelude.{ℕ, zero, suc, ℤ, pos, ◌+ℤ◌, int_lt, int_le, List, [], ◌∷◌, Bool, true, false, not, ◌&&◌, ◌||◌, if◌then◌else◌}
use Rattle.std.specs.List.{list_all}
use Rattle.std.specs.Ordering.{int_eq}
use Rattle.xs_model.specs.declared.term.Rel.{Rel}
use Rattle.xs_model.specs.declared.term.Rel.TheVariants.{Lt, Le, Ge, Gt}
use Rattle.xs_model.specs.Lists.{is_among}

-- x and the first of those behind it pass, where there is one
abbrev pub passes_next : {X : Type 0} → (X → X → Bool) → X → List X → Bool
passes_next test x [] = true
passes_next test x (y ∷ ys) = test x y

-- each and the next pass
abbrev pub all_next : {X : Type 0} → (X → X → Bool) → List X → Bool
all_next test [] = true
all_next test (x ∷ xs) = passes_next test x xs && all_next test xs

-- each and each later one pass
abbrev pub all_pairs : {X : Type 0} → (X → X → Bool) → List X → Bool
all_pairs test [] = true
all_pairs test (x ∷ xs) = list_all (test x) xs && all_pairs test xs

-- the numbers below n pass
abbrev pub all_below : (ℕ → Bool) → ℕ → Bool
all_below test zero = true
all_below test (suc n) = test n && all_below test n

-- two values differ, or the first is an exception
abbrev pub is_apart : List ℤ → ℤ → ℤ → Bool
is_apart except x y = not (int_eq x y) || is_among except x

-- each two of a list differ, but exceptions
abbrev pub are_different : List ℤ → List ℤ → Bool
are_different except xs = all_pairs (is_apart except) xs

-- the lists have the same values
abbrev pub is_same : List ℤ → List ℤ → Bool
is_same [] [] = true
is_same [] (y ∷ ys) = false
is_same (x ∷ xs) [] = false
is_same (x ∷ xs) (y ∷ ys) = int_eq x y && is_same xs ys

abbrev pub is_other : List ℤ → List ℤ → Bool
is_other xs ys = not (is_same xs ys)

-- x stands so to y
abbrev pub related : Rel → ℤ → ℤ → Bool
related Lt x y = int_lt x y
related Le x y = int_le x y
related Ge x y = int_le y x
related Gt x y = int_lt y x

-- the first length, where there is one, and those behind it
abbrev pub first_of : List ℤ → ℤ
first_of [] = pos 0
first_of (l ∷ ls) = l

abbrev pub behind_first : {X : Type 0} → List X → List X
behind_first [] = []
behind_first (l ∷ ls) = ls

-- each value plus its length stands so to the next
abbrev pub is_spaced : Rel → List ℤ → List ℤ → Bool
is_spaced rel ls [] = true
is_spaced rel ls (x ∷ xs) = passes_next (λ y z. related rel (y +ℤ first_of ls) z) x xs && is_spaced rel (behind_first ls) xs

-- at the first place where the lists differ, the first has the lesser value
abbrev pub is_lower : List ℤ → List ℤ → Bool
is_lower [] ys = false
is_lower (x ∷ xs) [] = false
is_lower (x ∷ xs) (y ∷ ys) = if int_eq x y then is_lower xs ys else int_lt x y

-- two lists of one length are in lexicographic order
abbrev pub in_order : Rel → List ℤ → List ℤ → Bool
in_order Lt xs ys = is_lower xs ys
in_order Le xs ys = not (is_lower ys xs)
in_order Ge xs ys = not (is_lower xs ys)
in_order Gt xs ys = is_lower ys xs

-- what is greater than each number stands so to a number; what is less does
abbrev pub past : Rel → Bool → Bool
past Lt greater = not greater
past Le greater = not greater
past Ge greater = greater
past Gt greater = greater
