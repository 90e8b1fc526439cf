-- Which `domain` child names each cell first, as a table of the children's numbers is filled by the children in order.
use Rattle.std.specs.Prelude.{◌≡◌, ℕ, zero, suc, ◌<◌, Bool, true, false, nat_eq, ℤ, List, [], ◌∷◌, length, slice_index, slice_index_or, Option, None, if◌then◌else◌, codes}
use Rattle.std.specs.List.{AllByRecursion, list_all}
use Rattle.xf_markup.specs.declared.tree.Node.{Node}
use Rattle.xf_num.specs.Span.{Bounds}
use Rattle.xs_fields.specs.Cells.{are_inside}
use Rattle.xs_fields.specs.Conditions.{first_missed}
use Rattle.xs_fields.specs.Variables.{word_meets, word_of}
use Rattle.xs_fields.specs.Words.{words_of}
use Rattle.xs_var.specs.Elements.{text_in, text_or_none, value_in}
use Rattle.xs_var.specs.VarDomain.{text_domain}
use Rattle.xs_array.specs.DomainChild.{Named, is_others, names_place}

-- a word that is spelt right, whose brackets lie inside
abbrev pub IsCellWord : List ℤ → List ℕ → Type 0
IsCellWord sizes word = (first_missed (word_meets word) ≡ None) × (are_inside sizes (word_of word).brackets ≡ true)

-- the one word `others`, or such words alone
abbrev pub AreCells : List ℤ → List ℕ → Type 0
AreCells sizes text = is_others text ≡ false → AllByRecursion (IsCellWord sizes) (words_of text)

-- the value of `for`
abbrev pub for_text : Node → List ℕ
for_text n = text_or_none (value_in (codes "for") n.attrs)

-- the domain of a `domain` child
abbrev pub child_domain : Node → Option (List Bounds)
child_domain n = text_domain (text_in n.pieces)

abbrev pub HasCells : List ℤ → Node → Type 0
HasCells sizes n = AreCells sizes (for_text n)

-- the number of the first child that names a cell, where k come before these; 0 where none does
abbrev pub owner_from : ℕ → List Named → ℕ → ℕ
owner_from k [] p = 0
owner_from k (c ∷ cs) p = if names_place c p then suc k else owner_from (suc k) cs p

-- what an entry becomes by a child of this number: a free one is taken where the child names it
abbrev pub claimed : ℕ → Bool → ℕ → ℕ
claimed zero named k = if named then k else 0
claimed (suc o) named k = suc o

-- no cell is named yet at this place
abbrev pub is_free : List ℕ → ℕ → Bool
is_free owners p = nat_eq (slice_index owners p) 0

abbrev pub are_free : List ℕ → List ℕ → Bool
are_free owners places = list_all (is_free owners) places

-- a table after a child of this number
pub record AreClaimed (before after : List ℕ) (named : ℕ → Bool) (k : ℕ) : Type 0 where
  pub same : length after ≡ length before
  pub each : (p : ℕ) → p < length before → slice_index after p ≡ claimed (slice_index before p) (named p) k

-- the domain of the child of a number, counted from 1
abbrev pub picked : List (Option (List Bounds)) → ℕ → Option (List Bounds)
picked domains zero = None
picked domains (suc k) = slice_index_or domains k None
