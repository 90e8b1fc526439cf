-- The unit of a `var` (XCSP3-core, "Variables"): what it meets.
use Rattle.std.specs.Prelude.{ℕ, Bool, true, false, ◌&&◌, not, nat_eq, List, [], ◌∷◌, length, codes, Option, None, Some}
use Rattle.std.specs.List.{list_all}
use Rattle.std.specs.Str.{bytes_eq}
use Rattle.xf_markup.specs.declared.tree.Node.{Node}
use Rattle.xf_markup.specs.declared.tree.Piece.{Piece, Piece-F, out-Piece}
use Rattle.xs_fields.specs.Identifiers.{identifier_meets}
use Rattle.xs_fields.specs.Lists.{pieces_meet}
use Rattle.xs_fields.specs.Words.{words_of}
use Rattle.xs_fields.specs.declared.condition.Condition.{Condition}
use Rattle.xs_fields.specs.declared.condition.Condition.TheVariants.{Known, Spelling, Naming}
use Rattle.xs_var.specs.Elements.{has_only, is_one_of, text_in, value_in}

abbrev pub words_step : Piece-F Piece Node → Bool
words_step (Piece-F.Words text) = true
words_step (Piece-F.Inner node) = false

abbrev pub is_words : Piece → Bool
is_words p = words_step (out-Piece p)

-- the element has no child
abbrev pub has_no_child : List Piece → Bool
has_no_child ps = list_all is_words ps

-- `integer`, or no type
abbrev pub is_integer_type : Option (List ℕ) → Bool
is_integer_type None = true
is_integer_type (Some text) = bytes_eq text (codes "integer")

-- the attributes of a `var`
abbrev pub var_attributes : List (List ℕ)
var_attributes = codes "id" ∷ codes "type" ∷ codes "as" ∷ codes "class" ∷ codes "note" ∷ []

abbrev pub is_var_known : Node → Bool
is_var_known n = has_only var_attributes n.attrs && is_integer_type (value_in (codes "type") n.attrs) && has_no_child n.pieces

-- a test that is asked by one condition
abbrev pub known_meets : Bool → Condition → Bool
known_meets test Known = test
known_meets test k = true

abbrev pub spelling_meets : Bool → Condition → Bool
spelling_meets test Spelling = test
spelling_meets test k = true

abbrev pub naming_meets : Bool → Condition → Bool
naming_meets test Naming = test
naming_meets test k = true

-- an identifier that has to be there
abbrev pub id_meets : Option (List ℕ) → Condition → Bool
id_meets None k = spelling_meets false k
id_meets (Some text) k = identifier_meets text k

-- an identifier that may be there
abbrev pub as_meets : Option (List ℕ) → Condition → Bool
as_meets None k = true
as_meets (Some text) k = identifier_meets text k

abbrev pub is_blank : List ℕ → Bool
is_blank text = nat_eq (length (words_of text)) 0

-- a domain text, and a blank one beside `as`
abbrev pub domain_meets : Option (List ℕ) → List ℕ → Condition → Bool
domain_meets None text k = pieces_meet text k
domain_meets (Some name) text k = spelling_meets (is_blank text) k

-- a new identifier
abbrev pub is_new : List (List ℕ) → Option (List ℕ) → Bool
is_new names None = true
is_new names (Some id) = not (is_one_of names id)

-- an identifier that is declared earlier
abbrev pub is_earlier : List (List ℕ) → Option (List ℕ) → Bool
is_earlier names None = true
is_earlier names (Some name) = is_one_of names name

-- what the element of a `var` meets by itself: its attributes, its children and its text
abbrev pub var_fields_meet : Node → Condition → Bool
var_fields_meet n k = known_meets (is_var_known n) k && (id_meets (value_in (codes "id") n.attrs) k && (as_meets (value_in (codes "as") n.attrs) k && domain_meets (value_in (codes "as") n.attrs) (text_in n.pieces) k))

-- what it meets beside the names declared before it
abbrev pub names_meet : List (List ℕ) → Node → Condition → Bool
names_meet names n k = naming_meets (is_new names (value_in (codes "id") n.attrs) && is_earlier names (value_in (codes "as") n.attrs)) k
