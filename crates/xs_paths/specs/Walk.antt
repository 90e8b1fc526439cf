-- A circuit (XCSP3-core, "circuit") as it is walked: from the first place that does not point to itself, value by value.
use Rattle.std.specs.Prelude.{◌≡◌, ◌↔◌, ℕ, zero, suc, ◌<◌, ℤ, pos, ◌+ℤ◌, List, length, Bool, true, false, not}
use Rattle.std.specs.List.{AllByRecursion}
use Rattle.std.specs.Ordering.{int_eq}
use Rattle.xs_model.specs.Comparing.{AreDifferent}
use Rattle.xs_model.specs.Schedule.{IsCircuit}
use Rattle.xs_model.specs.Value.{at}
use Rattle.xs_laws.specs.Indices.{IsIndex, place_of, count_below}

-- place p does not point to itself
abbrev pub is_moved : ℤ → List ℤ → ℕ → Bool
is_moved start xs p = not (int_eq (at xs p) (start +ℤ pos p))

-- the index reached from w after k steps
abbrev pub walked : ℤ → List ℤ → ℤ → ℕ → ℤ
walked start xs w zero = w
walked start xs w (suc k) = at xs (place_of start (walked start xs w k))

-- every value is an index, no two are the same, some place is moved, and the walk from the first of these meets them all
pub record IsWalk (start : ℤ) (xs : List ℤ) : Type 0 where
  pub inside : AllByRecursion (IsIndex start (length xs)) xs
  pub different : AreDifferent xs
  pub first : ℕ
  pub within : first < length xs
  pub moved : is_moved start xs first ≡ true
  pub still : (p : ℕ) → p < first → is_moved start xs p ≡ false
  pub meets : (p : ℕ) → p < length xs → is_moved start xs p ≡ true → (k : ℕ) × (k < length xs) × (walked start xs (start +ℤ pos first) k ≡ (start +ℤ pos p))

-- how many places do not point to themselves
abbrev pub moved_places : ℤ → List ℤ → ℕ
moved_places start xs = count_below (is_moved start xs) (length xs)

-- the law: a circuit is what is walked so, and its nodes are the moved places
abbrev pub CircuitLaw : Type 0
CircuitLaw = (start : ℤ) (xs : List ℤ) (nodes : ℕ) → IsCircuit start xs nodes ↔ (IsWalk start xs × (nodes ≡ moved_places start xs))
