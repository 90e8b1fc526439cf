-- A walk in the words of its steps: where it starts is counted, and the indices that it meets are a list.
use Rattle.std.specs.Prelude.{◌≡◌, ◌↔◌, ℕ, zero, suc, ◌<◌, ℤ, pos, ◌+ℤ◌, ◌-ℤ◌, List, [], ◌∷◌, length, Bool, true, ◌||◌}
use Rattle.std.specs.List.{AllByRecursion, list_any}
use Rattle.std.specs.Ordering.{int_eq}
use Rattle.xs_model.specs.Comparing.{AreDifferent}
use Rattle.xs_model.specs.Schedule.{IsCircuit}
use Rattle.xs_model.specs.Value.{at, sum_of}
use Rattle.xs_laws.specs.Indices.{IsIndex, place_of, bits_below}
use Rattle.xs_paths.specs.Walk.{is_moved}

-- some number up to p passes
abbrev pub is_seen : (ℕ → Bool) → ℕ → Bool
is_seen f zero = f zero
is_seen f (suc p) = is_seen f p || f (suc p)

-- n indices, from w on, each the value at the place of the one before
abbrev pub walk : ℤ → List ℤ → ℤ → ℕ → List ℤ
walk start xs w zero = []
walk start xs w (suc n) = w ∷ walk start xs (at xs (place_of start w)) n

-- the index of the first moved place
abbrev pub first_index : ℤ → List ℤ → ℤ
first_index start xs = (start +ℤ pos (length xs)) -ℤ sum_of (bits_below (is_seen (is_moved start xs)) (length xs))

pub record IsStepped (start : ℤ) (xs : List ℤ) : Type 0 where
  pub inside : AllByRecursion (IsIndex start (length xs)) xs
  pub different : AreDifferent xs
  pub last : ℕ
  pub many : length xs ≡ suc last
  pub some : is_seen (is_moved start xs) last ≡ true
  pub meets : (p : ℕ) → p < length xs → is_moved start xs p ≡ true → list_any (λ w. int_eq w (start +ℤ pos p)) (walk start xs (first_index start xs) (length xs)) ≡ true

-- the law: a circuit of so many nodes is what is stepped so, and the moved places are as many
abbrev pub CircuitStepsLaw : Type 0
CircuitStepsLaw = (start : ℤ) (xs : List ℤ) (nodes : ℕ) → IsCircuit start xs nodes ↔ (IsStepped start xs × (sum_of (bits_below (is_moved start xs) (length xs)) ≡ pos nodes))

-- the law: where every value is an index and some place is moved, each index of the walk is one of the list
abbrev pub WalkLaw : Type 0
WalkLaw = (start : ℤ) (xs : List ℤ) (last : ℕ) → AllByRecursion (IsIndex start (length xs)) xs → length xs ≡ suc last → is_seen (is_moved start xs) last ≡ true
    → AllByRecursion (IsIndex start (length xs)) (walk start xs (first_index start xs) (length xs))
