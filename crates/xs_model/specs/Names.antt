-- The variables of declarations: their names and their domains (XCSP3-core, "Variables" and "Arrays of variables").
use Rattle.std.specs.Prelude.{ℕ, ℤ, pos, negsuc, List, [], ◌∷◌, ◌++◌, Option, None, Some, map, codes}
use Rattle.std.specs.List.{flat_map, range_with_len}
use Rattle.std.specs.Fmt.{decimal}
use Rattle.xf_num.specs.Span.{Bounds}
use Rattle.xs_model.specs.declared.decl.Decl.{Decl}
use Rattle.xs_model.specs.declared.decl.Decl.TheVariants.{One, Array}

-- a size as a number of places
abbrev pub places_of : ℤ → ℕ
places_of (pos n) = n
places_of (negsuc n) = 0

-- every list of one index per dimension, in row-major order: the last index runs fastest
abbrev pub row_major : List ℤ → List (List ℕ)
row_major [] = [] ∷ []
row_major (n ∷ ns) = flat_map (λ i. map (λ t. i ∷ t) (row_major ns)) (range_with_len 0 (places_of n))

abbrev pub bracket : ℕ → List ℕ
bracket k = codes "[" ++ (decimal k ++ codes "]")

-- the direct word of a cell
abbrev pub cell_word : List ℕ → List ℕ → List ℕ
cell_word name indices = name ++ flat_map bracket indices

-- the words and the domains of the defined cells, beside the indices of all
abbrev pub cell_words : List ℕ → List (List ℕ) → List (Option (List Bounds)) → List (List ℕ)
cell_words name [] cells = []
cell_words name (t ∷ ts) [] = []
cell_words name (t ∷ ts) (None ∷ cells) = cell_words name ts cells
cell_words name (t ∷ ts) (Some d ∷ cells) = cell_word name t ∷ cell_words name ts cells

abbrev pub defined : List (Option (List Bounds)) → List (List Bounds)
defined [] = []
defined (None ∷ cells) = defined cells
defined (Some d ∷ cells) = d ∷ defined cells

-- the direct words of a declaration's variables, in order
abbrev pub words_of : Decl → List (List ℕ)
words_of (One name domain) = name ∷ []
words_of (Array name sizes cells) = cell_words name (row_major sizes) cells

-- their domains
abbrev pub domains_of : Decl → List (List Bounds)
domains_of (One name domain) = domain ∷ []
domains_of (Array name sizes cells) = defined cells

-- the direct words of all variables, in order of their numbers
abbrev pub words : List Decl → List (List ℕ)
words ds = flat_map words_of ds

abbrev pub domains : List Decl → List (List Bounds)
domains ds = flat_map domains_of ds
