-- What names keep of declarations: all but the domains (XCSP3-core, "Variables" and "Arrays of variables").
use Rattle.std.specs.Prelude.{◌≡◌, ℕ, ◌+◌, ◌<◌, ℤ, Bool, true, false, List, [], ◌∷◌, length, map, slice_get, slice_index_or, Option, None, Some, is_some}
use Rattle.std.specs.List.{AllByRecursion}
use Rattle.xs_model.specs.declared.decl.Decl.{Decl}
use Rattle.xs_model.specs.declared.decl.Decl.TheVariants.{One, Array}
use Rattle.xs_model.specs.Identifier.{IsIdentifier}
use Rattle.xs_model.specs.Sound.{IsSize, cell_count}

-- a declaration without domains: its name, its sizes, and for each cell whether it is defined. A single variable
-- has no size, and its one cell
pub record Outline : Type 0 where
  pub name : List ℕ
  pub sizes : List ℤ
  pub cells : List Bool

abbrev pub outline_of : Decl → Outline
outline_of (One name domain) = record { name = name; sizes = []; cells = true ∷ [] }
outline_of (Array name sizes cells) = record { name = name; sizes = sizes; cells = map is_some cells }

abbrev pub outlines_of : List Decl → List Outline
outlines_of ds = map outline_of ds

abbrev pub names_in : List Outline → List (List ℕ)
names_in os = map (λ o. o.name) os

-- how many of the cells are defined
abbrev pub defined_count : List Bool → ℕ
defined_count [] = 0
defined_count (true ∷ cells) = 1 + defined_count cells
defined_count (false ∷ cells) = defined_count cells

-- how many variables there are
abbrev pub variables_in : List Outline → ℕ
variables_in [] = 0
variables_in (o ∷ os) = defined_count o.cells + variables_in os

-- the numbers of the cells of one declaration, where n variables come before: each defined cell has the next number
abbrev pub number_cells : ℕ → List Bool → List (Option ℕ)
number_cells n [] = []
number_cells n (true ∷ cells) = Some n ∷ number_cells (n + 1) cells
number_cells n (false ∷ cells) = None ∷ number_cells n cells

-- the numbers of the cells of each declaration, where n variables come before
abbrev pub numbers_from : ℕ → List Outline → List (List (Option ℕ))
numbers_from n [] = []
numbers_from n (o ∷ os) = number_cells n o.cells ∷ numbers_from (n + defined_count o.cells) os

-- the numbers of the cells of the declaration `at`, in row-major order; an undefined cell has none
abbrev pub cell_numbers : List Outline → ℕ → List (Option ℕ)
cell_numbers os at = slice_index_or (numbers_from 0 os) at []

-- the sizes of the declaration `at`
abbrev pub sizes_at : List Outline → ℕ → List ℤ
sizes_at os at = slice_index_or (map (λ o. o.sizes) os) at []

-- the declaration `at` has this name
abbrev pub IsNamed : List Outline → ℕ → List ℕ → Type 0
IsNamed os at name = slice_get (names_in os) at ≡ Some name

-- the declaration `at` is of an array, and has this name
abbrev pub IsArrayNamed : List Outline → ℕ → List ℕ → Type 0
IsArrayNamed os at name = IsNamed os at name × (0 < length (sizes_at os at))

-- as of a sound declaration
pub record IsSoundOutline (o : Outline) : Type 0 where
  pub identifier : IsIdentifier o.name
  pub sizes : AllByRecursion IsSize o.sizes
  pub cells : length o.cells ≡ cell_count o.sizes
