-- Brackets read one after another.
use Rattle.std.specs.Prelude.{◌≡◌, ℕ, ◌+◌, ◌*◌, ℤ, pos, ◌<ℤ◌, Bool, true, not, ◌==◌, List, [], ◌∷◌, ◌++◌, None, Some, slice_index_or}
use Rattle.std.specs.List.{list_all}
use Rattle.xs_model.specs.Names.{places_of}
use Rattle.xs_model.specs.Denotes.{bracketed, SpellsIndex}
use Rattle.xs_model.specs.Outline.{Outline, cell_numbers, sizes_at}

-- the byte `]`
abbrev pub is_close : ℕ → Bool
is_close b = b == 93

-- a text is what stands before its first `]`, that byte, and more
pub record IsCut (text inner more : List ℕ) : Type 0 where
  pub whole : text ≡ inner ++ 93 ∷ more
  pub open_yet : list_all (λ b. not (is_close b)) inner ≡ true

-- a text begins with a bracket, and more follows it
pub record HasFront (text inner more : List ℕ) : Type 0 where
  pub whole : text ≡ 91 ∷ (inner ++ 93 ∷ more)
  pub open_yet : list_all (λ b. not (is_close b)) inner ≡ true

-- a text begins with a bracket that holds an index below the size, and more follows it
pub record BeginsWith (text : List ℕ) (size : ℤ) (index : ℕ) (more : List ℕ) : Type 0 where
  pub inner : List ℕ
  pub cut : text ≡ bracketed inner ++ more
  pub spells : SpellsIndex inner index
  pub below : pos index <ℤ size

-- a text is one bracket for each size, of the indices of place p, where `before` is the place of what came before
abbrev pub SpellsFrom : ℕ → List ℤ → List ℕ → ℕ → Type 0
SpellsFrom before [] text p = (text ≡ []) × (p ≡ before)
SpellsFrom before (n ∷ ns) text p = (index : ℕ) × ((more : List ℕ) × (BeginsWith text n index more × SpellsFrom (before * places_of n + index) ns more p))

abbrev pub SpellsPlace : List ℤ → List ℕ → ℕ → Type 0
SpellsPlace sizes text p = SpellsFrom 0 sizes text p

-- brackets denote variable k as a cell of the declaration `at`
abbrev pub DenotesCell : List Outline → ℕ → List ℕ → ℕ → Type 0
DenotesCell os at text k = (place : ℕ) × (SpellsPlace (sizes_at os at) text place × (slice_index_or (cell_numbers os at) place None ≡ Some k))
