-- Tests on a sorted copy of a list (XCSP3-core, "allDifferent", "nValues", "count", "cardinality").
use Rattle.std.specs.Prelude.{◌≡◌, ◌≢◌, ◌↔◌, ℕ, zero, suc, ◌-◌, ◌<◌, ◌≤◌, ℤ, ◌<ℤ◌, List, length, Bool, true, not, ◌&&◌}
use Rattle.std.specs.List.{AllByRecursion, sum_by}
use Rattle.std.specs.List.Sorted.{IsPermutation, IsSorted}
use Rattle.std.specs.Ordering.{int_cmp, int_eq}
use Rattle.xs_model.specs.Comparing.{AreDifferent, AreDifferentBut}
use Rattle.xs_model.specs.Counting.{distinct_count}
use Rattle.xs_model.specs.Lists.{is_among, how_often, Consecutive}
use Rattle.xs_model.specs.Value.{at}
use Rattle.xs_laws.specs.Indices.{count_below}

-- ys has the values of xs, in ascending order: what sorting leaves
pub record IsSortedCopy (xs ys : List ℤ) : Type 0 where
  pub permutation : IsPermutation xs ys
  pub sorted : IsSorted int_cmp ys

-- no value is equal to the next
abbrev pub AreNeighboursDifferent : List ℤ → Type 0
AreNeighboursDifferent ys = Consecutive (λ x y. x ≢ y) ys

-- a value that is equal to the next is an exception
abbrev pub AreNeighboursDifferentBut : List ℤ → List ℤ → Type 0
AreNeighboursDifferentBut except ys = Consecutive (λ x y. x ≡ y → is_among except x ≡ true) ys

-- the laws: a list has different values, or all but exceptions, where the neighbours of its sorted copy are so
abbrev pub SortedDifferentLaw : Type 0
SortedDifferentLaw = (xs ys : List ℤ) → IsSortedCopy xs ys → AreDifferent xs ↔ AreNeighboursDifferent ys

abbrev pub SortedDifferentButLaw : Type 0
SortedDifferentButLaw = (except xs ys : List ℤ) → IsSortedCopy xs ys → AreDifferentBut except xs ↔ AreNeighboursDifferentBut except ys

-- the value at place j is no exception, and not that of the place before
abbrev pub is_new : List ℤ → List ℤ → ℕ → Bool
is_new except ys zero = not (is_among except (at ys zero))
is_new except ys (suc j) = not (int_eq (at ys j) (at ys (suc j))) && not (is_among except (at ys (suc j)))

-- how many places have such a value
abbrev pub new_places : List ℤ → List ℤ → ℕ
new_places except ys = count_below (is_new except ys) (length ys)

-- the law: these are as many as the list has distinct values outside the exceptions
abbrev pub SortedDistinctLaw : Type 0
SortedDistinctLaw = (except xs ys : List ℤ) → IsSortedCopy xs ys → distinct_count except xs ≡ new_places except ys

-- the value v stands exactly at the places from a on and below b: before them are lesser values, behind them greater
pub record IsRun (v : ℤ) (ys : List ℤ) (a b : ℕ) : Type 0 where
  pub from : a ≤ b
  pub to : b ≤ length ys
  pub before : (k : ℕ) → k < a → at ys k <ℤ v
  pub within : (k : ℕ) → a ≤ k → k < b → at ys k ≡ v
  pub behind : (k : ℕ) → b ≤ k → k < length ys → v <ℤ at ys k

-- the law: a value occurs in a list as often as the run of it in a permutation is long
abbrev pub SortedRunLaw : Type 0
SortedRunLaw = (v : ℤ) (xs ys : List ℤ) (a b : ℕ) → IsPermutation xs ys → IsRun v ys a b → how_often v xs ≡ b - a

-- the law: the order of values does not matter to what is among them
abbrev pub SortedAmongLaw : Type 0
SortedAmongLaw = (vs ws : List ℤ) (x : ℤ) → IsPermutation vs ws → is_among vs x ≡ is_among ws x

-- the law: no other value than these, which differ, occurs in a list where they occur as often as it is long
abbrev pub ClosedLaw : Type 0
ClosedLaw = (vs xs : List ℤ) → AreDifferent vs → AllByRecursion (λ x. is_among vs x ≡ true) xs ↔ (sum_by (λ v. how_often v xs) vs ≡ length xs)
