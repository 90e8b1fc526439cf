-- What the literals of a table say, and of which variables they speak.
use Rattle.std.specs.Prelude.{◌≡◌, ℕ, ◌<◌, ℤ, Bool, false, List, slice_get, Some}
use Rattle.std.specs.List.{AllByRecursion}
use Rattle.std.specs.Ordering.{int_eq}
use Rattle.fz_model.specs.Meaning.{at, truth}
use Rattle.fz_model.specs.Limits.{IsSmall, exactly}
use Rattle.lo_emit.specs.declared.literal.Cell.{Cell}
use Rattle.lo_emit.specs.declared.literal.Literal.{Literal}
use Rattle.lo_emit.specs.declared.term.Term.{Term}
use Rattle.lo_rules.specs.Formed.{IsLogic}
use Rattle.lo_rules.specs.Rule.{num, Before}

-- whether the variable of a cell has its value
abbrev pub has_value : List ℤ → Cell → Bool
has_value b c = int_eq (at b c.variable) c.value

-- each literal tells whether the variable of its cell has the value
abbrev pub TableSays : List Literal → List ℤ → Type 0
TableSays table b = AllByRecursion (λ (l : Literal). num b l.truth ≡ truth (has_value b l.cell)) table

-- each literal is before n
abbrev pub IsTableBefore : ℕ → List Literal → Type 0
IsTableBefore n table = AllByRecursion (λ (l : Literal). Before n l.truth) table

-- each literal is a truth value behind variables of these kinds
abbrev pub IsTableFormed : List Bool → List Literal → Type 0
IsTableFormed booleans table = AllByRecursion (λ (l : Literal). IsLogic booleans l.truth) table

-- the variable of a cell is an integer, and its value is small
pub record IsCellFormed (booleans : List Bool) (c : Cell) : Type 0 where
  pub variable : slice_get booleans c.variable ≡ Some false
  pub value : IsSmall (exactly c.value)
