-- A `domain` child of an array (XCSP3-core, "Arrays of variables"): the cells that it names, and their domain.
use Rattle.std.specs.Prelude.{ℕ, Bool, true, false, ◌&&◌, ◌||◌, not, nat_eq, ℤ, List, [], ◌∷◌, Option, None, Some, if◌then◌else◌, codes}
use Rattle.std.specs.List.{flat_map, list_all, list_any}
use Rattle.std.specs.Str.{bytes_eq}
use Rattle.xf_markup.specs.declared.tree.Node.{Node}
use Rattle.xf_num.specs.Span.{Bounds}
use Rattle.xs_fields.specs.Cells.{are_inside, covered_places}
use Rattle.xs_fields.specs.Conditions.{all_meet}
use Rattle.xs_fields.specs.Lists.{pieces_meet}
use Rattle.xs_fields.specs.Variables.{word_meets, word_of}
use Rattle.xs_fields.specs.Words.{words_of}
use Rattle.xs_fields.specs.declared.condition.Condition.{Condition}
use Rattle.xs_fields.specs.declared.variable.Word.{Word}
use Rattle.xs_var.specs.Elements.{has_only, text_in, text_or_none, value_in}
use Rattle.xs_var.specs.VarDomain.{text_domain}
use Rattle.xs_var.specs.Variable.{has_no_child, naming_meets, spelling_meets}

-- the attributes `for`, `class` and `note`, and no child
abbrev pub is_domain_known : Node → Bool
is_domain_known n = has_only (codes "for" ∷ codes "class" ∷ codes "note" ∷ []) n.attrs && has_no_child n.pieces

-- the one word `others`
abbrev pub is_others_word : List (List ℕ) → Bool
is_others_word [] = false
is_others_word (w ∷ []) = bytes_eq w (codes "others")
is_others_word (w ∷ v ∷ ws) = false

abbrev pub is_others : List ℕ → Bool
is_others text = is_others_word (words_of text)

-- a word of the array with this name and these sizes
abbrev pub is_cell_word : List ℕ → List ℤ → Word → Bool
is_cell_word name sizes w = bytes_eq w.name name && are_inside sizes w.brackets

abbrev pub cell_word_meets : List ℕ → List ℤ → List ℕ → Condition → Bool
cell_word_meets name sizes word k = word_meets word k && naming_meets (is_cell_word name sizes (word_of word)) k

abbrev pub cell_words_meet : List ℕ → List ℤ → List ℕ → Condition → Bool
cell_words_meet name sizes text k = all_meet (cell_word_meets name sizes) (words_of text) k

-- what the value of `for` meets: a list of words of this array, or `others`
abbrev pub for_meets : List ℕ → List ℤ → Option (List ℕ) → Condition → Bool
for_meets name sizes None k = spelling_meets false k
for_meets name sizes (Some text) k = is_others text || cell_words_meet name sizes text k

-- what a `domain` child meets beside its attributes and children
abbrev pub domain_child_meets : List ℕ → List ℤ → Node → Condition → Bool
domain_child_meets name sizes n k = for_meets name sizes (value_in (codes "for") n.attrs) k && pieces_meet (text_in n.pieces) k

-- the cells that a `domain` child names, and their domain
pub record Named : Type 0 where
  pub others : Bool
  pub places : List ℕ
  pub domain : Option (List Bounds)

-- the places of the cells that a word of the array covers
abbrev pub word_places : List ℤ → List ℕ → List ℕ
word_places sizes word = covered_places sizes (word_of word).brackets

-- the places that are named by words; `others` names none by a word
abbrev pub places_in : List ℤ → List ℕ → List ℕ
places_in sizes text = if is_others text then [] else flat_map (word_places sizes) (words_of text)

abbrev pub named_by : List ℤ → Node → Named
named_by sizes n = record { others = is_others (text_or_none (value_in (codes "for") n.attrs)); places = places_in sizes (text_or_none (value_in (codes "for") n.attrs)); domain = text_domain (text_in n.pieces) }

-- a cell is named by its place, or is one of the others
abbrev pub names_place : Named → ℕ → Bool
names_place c p = c.others || list_any (nat_eq p) c.places

-- the domain of the first that names the cell: `others` are the cells not named before it
abbrev pub cell_at : List Named → ℕ → Option (List Bounds)
cell_at [] p = None
cell_at (c ∷ cs) p = if names_place c p then c.domain else cell_at cs p

-- no cell is named by words where it is named before
abbrev pub are_apart : List Named → Bool
are_apart [] = true
are_apart (c ∷ cs) = list_all (λ d. list_all (λ p. not (names_place c p)) d.places) cs && are_apart cs
