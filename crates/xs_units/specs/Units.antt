-- What a tree of `block`, `group`, `slide` and constraints stands for: its units in document order, each with what it
-- meets by itself and the constraints that it makes (XCSP3-core, "Blocks", "Groups", "Slides").
use Rattle.std.specs.Prelude.{◌≡◌, ℕ, ◌+◌, Bool, true, false, not, ◌&&◌, ◌||◌, nat_le, nat_eq, nat_lt, nat_abs, List, [], ◌∷◌, ◌++◌, length, map, Option, None, Some, if◌then◌else◌, Result, Ok, Err, codes, ⊤}
use Rattle.std.specs.List.{flat_map, list_all, filter}
use Rattle.std.specs.Str.{bytes_eq}
use Rattle.std.specs.Str.Parse.{signed_digits_value}
use Rattle.xf_markup.specs.declared.tree.Node.{Node, Node-F, fold-Node, roll-Node}
use Rattle.xf_markup.specs.declared.tree.Piece.{Piece, Piece-F, fold-Piece, roll-Piece}
use Rattle.xf_num.specs.declared.memory.NoMemory.{NoMemory}
use Rattle.xf_text.specs.declared.fault.Fault.{Fault}
use Rattle.xf_text.specs.declared.fault.Kind.{Kind}
use Rattle.xs_fields.specs.Conditions.{first_missed, kind_of}
use Rattle.xs_fields.specs.Integers.{is_small}
use Rattle.xs_fields.specs.declared.condition.Condition.{Condition}
use Rattle.xs_var.specs.Elements.{children_of, has_only, is_one_of, text_in, value_in}
use Rattle.xs_var.specs.VarDomain.{counting_meets, fitting_meets}
use Rattle.xs_var.specs.Variable.{has_no_child, is_blank, known_meets, naming_meets, spelling_meets}
use Rattle.xs_words.specs.Args.{are_few, args_of, is_count, magnitude_meets}
use Rattle.xs_words.specs.Compact.{are_named, are_spelt}
use Rattle.xs_model.specs.Outline.{Outline}
use Rattle.xs_units.specs.Forms.{is_form, is_form_known}
use Rattle.xs_template.specs.Concrete.{asked_of, filled_text, is_open, made_of, unchanged}
use Rattle.xs_template.specs.Template.{most_words}
use Rattle.xs_template.specs.Windows.{windows}
use Rattle.xs_model.specs.declared.concrete.Concrete.{Concrete}
use Rattle.xs_units.specs.declared.known.Known.{Known}
use Rattle.xs_units.specs.declared.known.Expansion.{Expansion}

-- a unit. One that holds others is judged by itself alone; one that makes constraints is judged by itself, beside the
-- number of words before it, and then counts its words and makes its constraints
pub data Unit : Type 0 where
  Holds : (place : ℕ) → (meets : Condition → Bool) → Unit
  Makes : (place : ℕ) → (meets : ℕ → Condition → Bool) → (words : ℕ) → (made : List Concrete) → Unit

-- what is known behind some units, and the fault of the first that is at fault
pub record Ran (K : Type 0) : Type 0 where
  pub known : Known K
  pub fault : Option Fault

abbrev pub ran_or : {K : Type 0} → Option Condition → Known K → ℕ → Ran K → Ran K
ran_or None known place more = more
ran_or (Some k) known place more = record { known = known; fault = Some (record { kind = kind_of k; place = place }) }

-- so many words more
abbrev pub counted : {K : Type 0} → Known K → ℕ → Known K
counted known words = record { words = known.words + words; state = known.state }

-- a constraint is taken, or is at fault itself
abbrev pub on_taken : {K : Type 0} → Known K → ℕ → Result K Kind → (Known K → Ran K) → Ran K
on_taken known place (Ok state) next = next (record { words = known.words; state = state })
on_taken known place (Err kind) next = record { known = known; fault = Some (record { kind = kind; place = place }) }

-- constraints are taken one after the other
abbrev pub take_all : {K : Type 0} → (K → Concrete → Result K Kind) → List Concrete → Known K → Ran K
take_all taken [] known = record { known = known; fault = None }
take_all taken (c ∷ cs) known = on_taken known c.place (taken known.state c) (take_all taken cs)

abbrev pub then_on : {K : Type 0} → Option Fault → Known K → (Known K → Ran K) → Ran K
then_on None known next = next known
then_on (Some fault) known next = record { known = known; fault = Some fault }

abbrev pub proceed : {K : Type 0} → Ran K → (Known K → Ran K) → Ran K
proceed ran next = then_on ran.fault ran.known next

-- the units one after the other, up to the first that misses a condition or makes a constraint that is at fault
abbrev pub run : {K : Type 0} → (K → Concrete → Result K Kind) → List Unit → Known K → Ran K
run taken [] known = record { known = known; fault = None }
run taken (Holds place meets ∷ us) known = ran_or (first_missed meets) known place (run taken us known)
run taken (Makes place meets words made ∷ us) known = ran_or (first_missed (meets known.words)) known place (proceed (take_all taken made (counted known words)) (run taken us))

-- what a block or `constraints` meets by itself
abbrev pub container_meets : Node → Condition → Bool
container_meets n k = known_meets (has_only (codes "id" ∷ codes "class" ∷ codes "note" ∷ []) n.attrs) k && spelling_meets (is_blank (text_in n.pieces)) k

-- a constraint that stands for itself
abbrev pub constraint_unit : Node → Unit
constraint_unit n = Makes n.place (λ before. known_meets (is_form_known n)) 0 (made_of unchanged n.place n ∷ [])

abbrev pub is_args : Node → Bool
is_args c = bytes_eq c.name (codes "args")

-- the children of a group behind its template, which is the first that is no `args`, are `args` or of a known form
abbrev pub is_group_child : Node → Bool
is_group_child c = is_args c || is_form c.name

abbrev pub are_group_children : List Node → Bool
are_group_children [] = true
are_group_children (c ∷ cs) = if is_args c then are_group_children cs else list_all is_group_child cs

-- one template, and then `args`
abbrev pub is_template_first : List Node → Bool
is_template_first [] = false
is_template_first (t ∷ cs) = not (is_args t) && list_all is_args cs

abbrev pub is_group_known : Node → Bool
is_group_known n = has_only (codes "id" ∷ codes "class" ∷ codes "note" ∷ []) n.attrs && are_group_children (children_of n.pieces)

abbrev pub is_group_spelt : Node → Bool
is_group_spelt n = is_blank (text_in n.pieces) && is_template_first (children_of n.pieces)

-- what a group meets by itself
abbrev pub group_meets : Node → Condition → Bool
group_meets n k = known_meets (is_group_known n) k && spelling_meets (is_group_spelt n) k

-- so many words are those that a template asks for: each place has one, and none is left over
abbrev pub fits : ℕ → Bool → ℕ → Bool
fits asked more count = nat_le asked count && (more || nat_le count asked)

abbrev pub is_args_known : Node → Bool
is_args_known a = has_only (codes "class" ∷ codes "note" ∷ []) a.attrs && has_no_child a.pieces

-- the number of words is within the limit, and is what is asked for
abbrev pub counts_meet : Bool → Bool → Condition → Bool
counts_meet few fit k = counting_meets few k && fitting_meets fit k

-- what the expanded words of an `args` meet: its compact words are declared, and its words are within the limit and as many as
-- are asked for
abbrev pub expanded_meet : (os : List Outline) → ℕ → Bool → List ℕ → ℕ → Condition → Bool
expanded_meet os asked more text before k =
    naming_meets (are_named os text) k
    && counts_meet (nat_le (before + length (args_of os text)) most_words) (fits asked more (length (args_of os text))) k

abbrev pub words_meet : (os : List Outline) → ℕ → Bool → List ℕ → ℕ → Condition → Bool
words_meet os asked more text before k = magnitude_meets (are_few text) k && expanded_meet os asked more text before k

-- what an `args` meets by itself
abbrev pub args_meet : (told : ℕ → ℕ) (os : List Outline) → Node → Node → ℕ → Condition → Bool
args_meet told os t a before k =
    known_meets (is_args_known a) k && words_meet os (asked_of told t) (is_open told t) (text_in a.pieces) before k

-- an `args`: the template with its gaps filled by the words
abbrev pub args_unit : (told : ℕ → ℕ) (os : List Outline) → Node → Node → Unit
args_unit told os t a = Makes a.place (args_meet told os t a) (length (args_of os (text_in a.pieces))) (made_of (filled_text told (args_of os (text_in a.pieces)) (asked_of told t)) a.place t ∷ [])

-- the units behind a group itself: its template, judged by its names alone, and each `args`
abbrev pub group_rest : (told : ℕ → ℕ) (os : List Outline) → List Node → List Unit
group_rest told os [] = []
group_rest told os (t ∷ cs) = Holds t.place (known_meets (is_form_known t)) ∷ map (args_unit told os t) cs

abbrev pub group_units : (told : ℕ → ℕ) (os : List Outline) → Node → List Unit
group_units told os n = Holds n.place (group_meets n) ∷ group_rest told os (children_of n.pieces)

abbrev pub is_list : Node → Bool
is_list c = bytes_eq c.name (codes "list")

abbrev pub is_template : Node → Bool
is_template c = not (is_list c)

-- the first of some elements
abbrev pub first_of : List Node → Option Node
first_of [] = None
first_of (n ∷ ns) = Some n

-- a slide's list, and its template
abbrev pub list_in : List Node → Option Node
list_in cs = first_of (filter is_list cs)

abbrev pub template_in : List Node → Option Node
template_in cs = first_of (filter is_template cs)

-- `true` or `false`, or no such attribute
abbrev pub is_truth : Option (List ℕ) → Bool
is_truth None = true
is_truth (Some text) = is_one_of (codes "true" ∷ codes "false" ∷ []) text

abbrev pub is_circular : Option (List ℕ) → Bool
is_circular None = false
is_circular (Some text) = bytes_eq text (codes "true")

-- the offset, which is 1 where it is not written
abbrev pub offset_text : Option (List ℕ) → List ℕ
offset_text None = codes "1"
offset_text (Some text) = text

abbrev pub offset_of : Node → ℕ
offset_of l = nat_abs (signed_digits_value 10 (offset_text (value_in (codes "offset") l.attrs)))

-- the constraints of a slide: its template over each window of its list
abbrev pub slide_makes : (told : ℕ → ℕ) (os : List Outline) → ℕ → Bool → Node → Node → List Concrete
slide_makes told os place circular l t =
    map (λ w. made_of (filled_text told w (asked_of told t)) place t)
    (windows circular (offset_of l) (asked_of told t) (args_of os (text_in l.pieces)))

-- the template has a place and no gap for the rest, and the offset is an integer of at least 1
abbrev pub is_pair_spelt : ℕ → Bool → List ℕ → Bool
is_pair_spelt asked more offset = nat_lt 0 asked && (not more && is_count offset)

-- in a circle the list is no shorter than a window
abbrev pub is_long : Bool → ℕ → ℕ → Bool
is_long circular asked count = not circular || nat_le asked count

-- what the members of the list of a slide meet
abbrev pub members_meet : (os : List Outline) → Bool → ℕ → List ℕ → ℕ → Condition → Bool
members_meet os circular asked list before k =
    naming_meets (are_named os list) k
    && counts_meet (nat_le (before + length (args_of os list)) most_words) (is_long circular asked (length (args_of os list))) k

-- what the texts of the list and the template of a slide meet: the places that are asked for, whether there is a gap for
-- the rest, the text of the offset and that of the list
abbrev pub texts_meet : (os : List Outline) → Bool → ℕ → Bool → List ℕ → List ℕ → ℕ → Condition → Bool
texts_meet os circular asked more offset list before k =
    spelling_meets (is_pair_spelt asked more offset && are_spelt list) k
    && (magnitude_meets (is_small (signed_digits_value 10 offset) && are_few list) k && members_meet os circular asked list before k)

-- a list, or a template
abbrev pub is_slide_child : Node → Bool
is_slide_child c =
    if is_list c then has_only (codes "offset" ∷ codes "class" ∷ codes "note" ∷ []) c.attrs && has_no_child c.pieces else is_form_known c

abbrev pub is_slide_known : Node → Bool
is_slide_known n =
    has_only (codes "circular" ∷ codes "id" ∷ codes "class" ∷ codes "note" ∷ []) n.attrs && (is_truth (value_in (codes "circular") n.attrs) && list_all is_slide_child (children_of n.pieces))

abbrev pub is_slide_spelt : Node → Bool
is_slide_spelt n = is_blank (text_in n.pieces) && nat_eq (length (children_of n.pieces)) 2

-- what a slide meets by its own names and texts
abbrev pub slide_meets : Node → Condition → Bool
slide_meets n k = known_meets (is_slide_known n) k && spelling_meets (is_slide_spelt n) k

abbrev pub pair_meets : (told : ℕ → ℕ) (os : List Outline) → Bool → Node → Node → ℕ → Condition → Bool
pair_meets told os circular l t before k =
    texts_meet os circular (asked_of told t) (is_open told t) (offset_text (value_in (codes "offset") l.attrs)) (text_in l.pieces) before k

-- a slide with its children is one unit. Without a list or a template it is not spelt right
abbrev pub slide_unit_of : (told : ℕ → ℕ) (os : List Outline) → Node → Bool → Option Node → Option Node → Unit
slide_unit_of told os n circular None t = Makes n.place (λ before k. slide_meets n k && spelling_meets false k) 0 []
slide_unit_of told os n circular (Some l) None = Makes n.place (λ before k. slide_meets n k && spelling_meets false k) 0 []
slide_unit_of told os n circular (Some l) (Some t) =
    Makes n.place (λ before k. slide_meets n k && pair_meets told os circular l t before k) (length (args_of os (text_in l.pieces))) (slide_makes told os n.place circular l t)

abbrev pub slide_unit : (told : ℕ → ℕ) (os : List Outline) → Node → Unit
slide_unit told os n = slide_unit_of told os n (is_circular (value_in (codes "circular") n.attrs)) (list_in (children_of n.pieces)) (template_in (children_of n.pieces))

-- the units of an element, where those of its children are known
abbrev pub units_with : (told : ℕ → ℕ) (os : List Outline) → Node → List Unit → List Unit
units_with told os n inner =
    if bytes_eq n.name (codes "block") then Holds n.place (container_meets n) ∷ inner
    else if bytes_eq n.name (codes "group") then group_units told os n
    else if bytes_eq n.name (codes "slide") then slide_unit told os n ∷ []
    else constraint_unit n ∷ []

-- an element or a piece, with the units of what it holds
pub record Seen : Type 0 where
  pub node : Node
  pub units : List Unit

pub record SeenPiece : Type 0 where
  pub piece : Piece
  pub units : List Unit

abbrev pub piece_step : Piece-F SeenPiece Seen → SeenPiece
piece_step (Piece-F.Words text) = record { piece = roll-Piece (Piece-F.Words text); units = [] }
piece_step (Piece-F.Inner s) = record { piece = roll-Piece (Piece-F.Inner s.node); units = s.units }

abbrev pub whole : Node-F SeenPiece Seen → Node
whole x = roll-Node (record { name = x.name; attrs = x.attrs; pieces = map (λ p. p.piece) x.pieces; place = x.place })

abbrev pub node_step : (told : ℕ → ℕ) (os : List Outline) → Node-F SeenPiece Seen → Seen
node_step told os x = record { node = whole x; units = units_with told os (whole x) (flat_map (λ p. p.units) x.pieces) }

abbrev pub seen : (told : ℕ → ℕ) (os : List Outline) → Node → Seen
seen told os = fold-Node SeenPiece Seen piece_step (node_step told os)

abbrev pub seen_piece : (told : ℕ → ℕ) (os : List Outline) → Piece → SeenPiece
seen_piece told os = fold-Piece SeenPiece Seen piece_step (node_step told os)

-- the units of an element
abbrev pub units : (told : ℕ → ℕ) (os : List Outline) → Node → List Unit
units told os n = (seen told os n).units

-- the units of `constraints`
abbrev pub section_units : (told : ℕ → ℕ) (os : List Outline) → Node → List Unit
section_units told os n = Holds n.place (container_meets n) ∷ flat_map (units told os) (children_of n.pieces)

-- the result is as told, or memory was wanting
abbrev pub IsRun : {K : Type 0} → Known K → Result (Option Fault) NoMemory → Ran K → Type 0
IsRun new (Ok fault) told = told ≡ record { known = new; fault = fault }
IsRun new (Err e) told = ⊤

-- what an element that holds others stands for is told by its children
abbrev pub IsByChildren : (told : ℕ → ℕ) (os : List Outline) → Type 0
IsByChildren told os = (n : Node) → units told os n ≡ units_with told os n (flat_map (units told os) (children_of n.pieces))

-- a state that took a constraint, or the kind of the constraint's fault, which changes nothing
abbrev pub IsTaken : {K : Type 0} → (K → Concrete → Result K Kind) → K → K → Concrete → Result (Option Kind) NoMemory → Type 0
IsTaken taken old new c (Ok None) = taken old c ≡ Ok new
IsTaken taken old new c (Ok (Some kind)) = (taken old c ≡ Err kind) × (new ≡ old)
IsTaken taken old new c (Err e) = ⊤

-- with one constraint more
abbrev pub gathered : List Concrete → Concrete → Result (List Concrete) Kind
gathered made c = Ok (made ++ c ∷ [])

abbrev pub nothing : Known (List Concrete)
nothing = record { words = 0; state = [] }

abbrev pub expansion_in : Ran (List Concrete) → Expansion
expansion_in r = record { made = r.known.state; fault = r.fault }

-- what a section stands for: its constraints up to the first unit that can not be expanded, and that unit's fault
abbrev pub expansion_of : (told : ℕ → ℕ) (os : List Outline) → Node → Expansion
expansion_of told os n = expansion_in (run gathered (section_units told os n) nothing)

-- a unit of which only some conditions are asked
abbrev pub asking : (Condition → Bool) → Unit → Unit
asking asks (Holds place meets) = Holds place (λ k. not (asks k) || meets k)
asking asks (Makes place meets words made) = Makes place (λ before k. not (asks k) || meets before k) words made
