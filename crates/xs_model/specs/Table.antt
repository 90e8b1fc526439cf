-- The table that names are kept in: a name, and the numbers of the cells that it names, for each declaration.
use Rattle.std.specs.Prelude.{◌≡◌, ℕ, ◌<◌, ◌^◌, ℤ, length, List, [], ◌∷◌, map, slice_get, Option, Some, is_some}
use Rattle.std.specs.List.{AllByRecursion}
use Rattle.xs_model.specs.declared.table.Entry.{Entry}
use Rattle.xs_model.specs.declared.table.Entry.TheVariants.{One, Array}
use Rattle.xs_model.specs.Outline.{Outline, IsSoundOutline, variables_in, numbers_from}

abbrev pub sizes_of : Entry → List ℤ
sizes_of (One number) = []
sizes_of (Array sizes numbers) = sizes

-- the numbers of the cells
abbrev pub numbers_of : Entry → List (Option ℕ)
numbers_of (One number) = Some number ∷ []
numbers_of (Array sizes numbers) = numbers

abbrev pub outline_at : List ℕ × Entry → Outline
outline_at row = record { name = row.0; sizes = sizes_of row.1; cells = map is_some (numbers_of row.1) }

abbrev pub outlines : List (List ℕ × Entry) → List Outline
outlines rows = map outline_at rows

-- the places of its cells are machine numbers
abbrev pub IsAddressable : Outline → Type 0
IsAddressable o = length o.cells < 2 ^ 64

-- a table of sound declarations, numbered on from 0, with `next` variables
pub record IsTable (rows : List (List ℕ × Entry)) (next : ℕ) : Type 0 where
  pub numbers : map (λ row. numbers_of row.1) rows ≡ numbers_from 0 (outlines rows)
  pub count : next ≡ variables_in (outlines rows)
  pub sound : AllByRecursion IsSoundOutline (outlines rows)
  pub few : AllByRecursion IsAddressable (outlines rows)

-- the row `at` has this name
abbrev pub HasName : List (List ℕ × Entry) → ℕ → List ℕ → Type 0
HasName rows at name = slice_get (map (λ row. row.0) rows) at ≡ Some name
