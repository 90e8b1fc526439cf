-- Which variable a direct word denotes (XCSP3-core, "Variables" and "Arrays of variables").
use Rattle.std.specs.Prelude.{◌≡◌, ℕ, pos, List, [], ◌∷◌, ◌++◌, slice_get, slice_index_or, None, Some, codes}
use Rattle.std.specs.List.{flat_map}
use Rattle.std.specs.Str.Parse.{IsNumeral, without_leading_sign, signed_digits_value}
use Rattle.xs_model.specs.Names.{row_major}
use Rattle.xs_model.specs.Outline.{Outline, cell_numbers, number_cells}

abbrev pub bracketed : List ℕ → List ℕ
bracketed t = codes "[" ++ (t ++ codes "]")

-- the text is an integer, that is digits with a `-` or `+` before them or without, and its value is the index
abbrev pub SpellsIndex : List ℕ → ℕ → Type 0
SpellsIndex t i = IsNumeral 10 (without_leading_sign t) × (signed_digits_value 10 t ≡ pos i)

-- each text spells the index at its place
abbrev pub SpellIndices : List (List ℕ) → List ℕ → Type 0
SpellIndices [] [] = Unit {0}
SpellIndices (t ∷ ts) (i ∷ is) = SpellsIndex t i × SpellIndices ts is
SpellIndices [] (i ∷ is) = ⊥
SpellIndices (t ∷ ts) [] = ⊥

-- a word denotes variable k: it is the name of a declaration with one bracket for each index of the cell that has
-- the number k
pub record Denotes (os : List Outline) (word : List ℕ) (k : ℕ) : Type 0 where
  pub at : ℕ
  pub outline : Outline
  pub place : ℕ
  pub texts : List (List ℕ)
  pub declared : slice_get os at ≡ Some outline
  pub numbered : slice_index_or (cell_numbers os at) place None ≡ Some k
  pub spelt : word ≡ outline.name ++ flat_map bracketed texts
  pub reads : SpellIndices texts (slice_index_or (row_major outline.sizes) place [])

-- a word denotes the nth variable of one declaration
pub record DenotesIn (o : Outline) (word : List ℕ) (nth : ℕ) : Type 0 where
  pub place : ℕ
  pub texts : List (List ℕ)
  pub numbered : slice_index_or (number_cells 0 o.cells) place None ≡ Some nth
  pub spelt : word ≡ o.name ++ flat_map bracketed texts
  pub reads : SpellIndices texts (slice_index_or (row_major o.sizes) place [])
