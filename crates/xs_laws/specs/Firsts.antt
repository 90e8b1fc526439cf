-- Distinct values as the places that have a value for the first time, and counts as sums of truth values.
use Rattle.std.specs.Prelude.{◌≡◌, ℕ, ℤ, pos, List, [], ◌∷◌, ◌++◌, length, take, map, Bool, not, ◌&&◌, count_by}
use Rattle.std.specs.Ordering.{int_eq}
use Rattle.xs_model.specs.Counting.{distinct_count, places_among}
use Rattle.xs_model.specs.Lists.{is_among, how_often}
use Rattle.xs_model.specs.Value.{at, sum_of, truth}
use Rattle.xs_laws.specs.Indices.{count_below, bits_below}

-- the value at place j is no exception, and no place before has it
abbrev pub is_first : List ℤ → List ℤ → ℕ → Bool
is_first except xs j = not (is_among (take j xs) (at xs j)) && not (is_among except (at xs j))

-- for each of xs, which follow earlier ones: 1 where it is the first with its value, which is no exception, else 0
abbrev pub firsts : List ℤ → List ℤ → List ℤ → List ℤ
firsts except earlier [] = []
firsts except earlier (x ∷ xs) = truth (not (is_among earlier x) && not (is_among except x)) ∷ firsts except (earlier ++ x ∷ []) xs

-- how many places have a value for the first time, which is no exception
abbrev pub first_places : List ℤ → List ℤ → ℕ
first_places except xs = count_below (is_first except xs) (length xs)

-- the law: there are as many distinct values outside the exceptions as places that have one for the first time
abbrev pub DistinctLaw : Type 0
DistinctLaw = (except xs : List ℤ) → distinct_count except xs ≡ first_places except xs

-- the law: the same as a sum
abbrev pub DistinctSumLaw : Type 0
DistinctSumLaw = (except xs : List ℤ) → pos (distinct_count except xs) ≡ sum_of (firsts except [] xs)

-- for each value 1 where it passes, else 0
abbrev pub bits_of : (ℤ → Bool) → List ℤ → List ℤ
bits_of test xs = map (λ x. truth (test x)) xs

-- the law: a count is a sum of truth values, over values or over places
abbrev pub CountLaw : Type 0
CountLaw = (test : ℤ → Bool) (xs : List ℤ) → pos (count_by test xs) ≡ sum_of (bits_of test xs)

abbrev pub PlacesAmongLaw : Type 0
PlacesAmongLaw = (vs xs : List ℤ) → pos (places_among vs xs) ≡ sum_of (bits_of (is_among vs) xs)

abbrev pub OccurrencesLaw : Type 0
OccurrencesLaw = (v : ℤ) (xs : List ℤ) → pos (how_often v xs) ≡ sum_of (bits_of (λ x. int_eq x v) xs)

abbrev pub PlacesLaw : Type 0
PlacesLaw = (test : ℕ → Bool) (n : ℕ) → pos (count_below test n) ≡ sum_of (bits_below test n)
