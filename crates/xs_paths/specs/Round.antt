-- A circuit as a test: one walk from the first place that does not point to itself, once round.
use Rattle.std.specs.Prelude.{◌≡◌, ◌↔◌, ℕ, zero, suc, ◌-◌, ◌<◌, ℤ, pos, ◌+ℤ◌, nat_lt, List, length, Option, None, Some, Bool, true, false, not, ◌&&◌, ⊤}
use Rattle.std.specs.List.{AllByRecursion, list_all, range_with_len, position_or_len}
use Rattle.std.specs.Ordering.{int_eq}
use Rattle.xs_model.specs.declared.term.Term.{Term}
use Rattle.xs_model.specs.Conditions.{value_of}
use Rattle.xs_model.specs.Instance.{IsSizeOf}
use Rattle.xs_model.specs.Schedule.{IsCircuit}
use Rattle.xs_model.specs.Value.{at, sum_of}
use Rattle.xs_laws.specs.Indices.{IsIndex, is_index, place_of, bits_below}
use Rattle.xs_paths.specs.Walk.{is_moved, moved_places}
use Rattle.xs_paths.specs.Steps.{IsStepped}

-- whether the values, one after the other from w on, are at home after n steps and not before
abbrev pub returns_after : ℤ → List ℤ → ℤ → ℤ → ℕ → Bool
returns_after start xs home w zero = int_eq w home
returns_after start xs home w (suc n) = not (int_eq w home) && returns_after start xs home (at xs (place_of start w)) n

-- whether the walk from the place p is back after so many steps and not before
abbrev pub goes_round : ℤ → List ℤ → ℕ → ℕ → Bool
goes_round start xs p nodes = returns_after start xs (start +ℤ pos p) (at xs p) (nodes - 1)

-- every value is an index, and the walk from the first place that is moved goes round in as many steps as places are moved
pub record IsRound (start : ℤ) (xs : List ℤ) (nodes : ℕ) : Type 0 where
  pub inside : AllByRecursion (IsIndex start (length xs)) xs
  pub first : ℕ
  pub within : first < length xs
  pub moved : is_moved start xs first ≡ true
  pub still : (p : ℕ) → p < first → is_moved start xs p ≡ false
  pub round : goes_round start xs first nodes ≡ true
  pub count : nodes ≡ moved_places start xs

-- the law: this is a circuit of so many nodes
abbrev pub RoundLaw : Type 0
RoundLaw = (start : ℤ) (xs : List ℤ) (nodes : ℕ) → IsCircuit start xs nodes ↔ IsRound start xs nodes

-- the first place that is moved, or the length where none is
abbrev pub first_moved : ℤ → List ℤ → ℕ
first_moved start xs = position_or_len (is_moved start xs) (range_with_len 0 (length xs))

-- whether a list is such a circuit
abbrev pub is_circuit : ℤ → List ℤ → Bool
is_circuit start xs =
    list_all (is_index start (length xs)) xs && (nat_lt (first_moved start xs) (length xs) && goes_round start xs (first_moved start xs) (moved_places start xs))

-- the law: with a size, or without one, a circuit is what the test finds, and its nodes are the moved places
abbrev pub CircuitTestLaw : Type 0
CircuitTestLaw = (a : List ℤ) (start : ℤ) (xs : List ℤ) (size : Option Term)
    → ((n : ℕ) × (IsCircuit start xs n × IsSizeOf a size n)) ↔ ((is_circuit start xs ≡ true) × IsSizeOf a size (moved_places start xs))

-- a sum is as the size says, where one is given
abbrev pub IsSizeSum : List ℤ → Option Term → ℤ → Type 0
IsSizeSum a None s = ⊤
IsSizeSum a (Some t) s = s ≡ value_of a t

-- the law: the same by the steps of the walk, with the size as a sum
abbrev pub CircuitSizeLaw : Type 0
CircuitSizeLaw = (a : List ℤ) (start : ℤ) (xs : List ℤ) (size : Option Term)
    → ((n : ℕ) × (IsCircuit start xs n × IsSizeOf a size n)) ↔ (IsStepped start xs × IsSizeSum a size (sum_of (bits_below (is_moved start xs) (length xs))))
