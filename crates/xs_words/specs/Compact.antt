-- Compact words of variables among the words of an `args` or of the list of a slide (XCSP3-core, arrays and compact forms).
use Rattle.std.specs.Prelude.{ℕ, Bool, true, false, ◌&&◌, not, ℤ, List, [], map, is_some, slice_index_or, Option, None, Some, if◌then◌else◌}
use Rattle.std.specs.List.{filter, list_all}
use Rattle.xs_model.specs.Names.{cell_word, row_major}
use Rattle.xs_model.specs.Outline.{Outline, cell_numbers, sizes_at}
use Rattle.xs_fields.specs.Cells.{are_inside, covered_places, declared_at}
use Rattle.xs_fields.specs.Sizes.{brackets_of, size_of}
use Rattle.xs_fields.specs.Variables.{word_meets, word_of}
use Rattle.xs_fields.specs.Words.{words_of}
use Rattle.xs_fields.specs.declared.condition.Condition.TheVariants.{Spelling, Magnitude}
use Rattle.xs_fields.specs.declared.variable.Word.{Word}

-- a variable word that is spelt right
abbrev pub is_spelt : List ℕ → Bool
is_spelt word = word_meets word Spelling

-- the words of a list of variables are spelt right
abbrev pub are_spelt : List ℕ → Bool
are_spelt text = list_all is_spelt (words_of text)

-- an integer stands in a bracket
abbrev pub is_index_part : List ℕ → Bool
is_index_part part = is_some (size_of part)

abbrev pub are_indices : List ℕ → Bool
are_indices word = list_all is_index_part (brackets_of word)

-- a variable word that is spelt right and has a bracket that holds no integer. It is told by its spelling alone: an end of a
-- range may be too large
abbrev pub is_compact : List ℕ → Bool
is_compact word = is_spelt word && not (are_indices word)

-- the word, where no integer in its brackets is too large
abbrev pub small_word : List ℕ → Option Word
small_word word = if word_meets word Magnitude then Some (word_of word) else None

abbrev pub covered_at : List Outline → Word → Option ℕ → Option ℕ
covered_at os word None = None
covered_at os word (Some at) = if are_inside (sizes_at os at) word.brackets then Some at else None

-- the declaration of the word's name, where the word's brackets fit its sizes
abbrev pub covered_in : List Outline → Word → Option ℕ
covered_in os word = covered_at os word (declared_at os word.name)

abbrev pub is_covered : List Outline → Option Word → Bool
is_covered os None = false
is_covered os (Some word) = is_some (covered_in os word)

-- a compact word has a name that is declared, and brackets that fit; a number that is too large fits none
abbrev pub is_named : List Outline → List ℕ → Bool
is_named os word = if is_compact word then is_covered os (small_word word) else true

abbrev pub are_named : List Outline → List ℕ → Bool
are_named os text = list_all (is_named os) (words_of text)

-- the cell at a place in row-major order is defined
abbrev pub is_defined : List Outline → ℕ → ℕ → Bool
is_defined os at place = is_some (slice_index_or (cell_numbers os at) place None)

-- the indices of that cell
abbrev pub indices_at : List ℤ → ℕ → List ℕ
indices_at sizes place = slice_index_or (row_major sizes) place []

-- its direct word
abbrev pub word_at : List ℤ → List ℕ → ℕ → List ℕ
word_at sizes name place = cell_word name (indices_at sizes place)

-- the direct words of the defined ones among these cells of a declaration
abbrev pub words_at : List Outline → List ℕ → ℕ → List ℕ → List (List ℕ)
words_at os name at places = map (word_at (sizes_at os at) name) (filter (is_defined os at) places)

abbrev pub cells_of : List Outline → Word → Option ℕ → List (List ℕ)
cells_of os word None = []
cells_of os word (Some at) = words_at os word.name at (covered_places (sizes_at os at) word.brackets)

abbrev pub cells_in : List Outline → Option Word → List (List ℕ)
cells_in os None = []
cells_in os (Some word) = cells_of os word (covered_in os word)

-- the direct words of the defined cells that a compact word covers, in row-major order
abbrev pub cell_words_of : List Outline → List ℕ → List (List ℕ)
cell_words_of os word = cells_in os (small_word word)
