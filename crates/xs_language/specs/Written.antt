-- How an `extension`, a `regular` and an `mdd` are written (XCSP3-core, the forms of these names): on one line, a list and then
-- what is said of it, each as a child.
use Rattle.std.specs.Prelude.{ℕ, ℤ, pos, Bool, true, false, List, [], ◌∷◌, ◌++◌, map, Option, None, Some, slice_index_or, if◌then◌else◌, codes}
use Rattle.std.specs.Fmt.{signed_decimal}
use Rattle.std.specs.List.{flat_map}
use Rattle.std.specs.Ordering.{int_eq}
use Rattle.xf_num.specs.Span.{Bounds}
use Rattle.xs_expr.specs.Text.{joined_from}
use Rattle.xs_model.specs.declared.concrete.Concrete.{Concrete}
use Rattle.xs_model.specs.declared.concrete.Part.{Part}
use Rattle.xs_model.specs.declared.instance.Constraint.{Constraint}
use Rattle.xs_model.specs.declared.instance.Constraint.TheVariants.{Extension, Mdd, Regular, Unary}
use Rattle.xs_model.specs.declared.instance.Edge.{Edge}

-- a text: a space, and then its words, a space behind each
abbrev pub spaced : List (List ℕ) → List ℕ
spaced ws = codes " " ++ flat_map (λ w. w ++ codes " ") ws

abbrev pub entry_text : Option ℤ → List ℕ
entry_text None = codes "*"
entry_text (Some z) = signed_decimal z

-- a tuple is one word
abbrev pub tuple_text : List (Option ℤ) → List ℕ
tuple_text t = codes "(" ++ (joined_from [] (map entry_text t) ++ codes ")")

-- a range is its one integer, or both ends
abbrev pub range_text : Bounds → List ℕ
range_text b = if int_eq b.lo b.hi then signed_decimal b.lo else signed_decimal b.lo ++ (codes ".." ++ signed_decimal b.hi)

-- the direct words of all variables are given
abbrev pub list_text : List (List ℕ) → List ℕ → List ℕ
list_text words vs = spaced (map (λ v. slice_index_or words v []) vs)

abbrev pub tuples_text : List (List (Option ℤ)) → List ℕ
tuples_text ts = spaced (map tuple_text ts)

abbrev pub ranges_text : List Bounds → List ℕ
ranges_text bs = spaced (map range_text bs)

-- a state is written by its number, and a transition is one word
abbrev pub state_text : ℕ → List ℕ
state_text q = codes "s" ++ signed_decimal (pos q)

abbrev pub edge_text : Edge → List ℕ
edge_text e = codes "(" ++ (joined_from [] (state_text e.from ∷ signed_decimal e.value ∷ state_text e.to ∷ []) ++ codes ")")

abbrev pub transitions_text : List Edge → List ℕ
transitions_text es = spaced (map edge_text es)

abbrev pub states_text : List ℕ → List ℕ
states_text qs = spaced (map state_text qs)

-- a child, and an element that has children alone
abbrev pub child : List ℕ → List ℕ → Part
child name text = record { name = name; attrs = []; text = text }

abbrev pub element : List ℕ → List Part → Concrete
element name parts = record { name = name; attrs = []; parts = parts; place = 0 }

-- a table is one of supports or of conflicts
abbrev pub table_name : Bool → List ℕ
table_name true = codes "supports"
table_name false = codes "conflicts"

abbrev pub extension_element : Bool → List ℕ → List ℕ → Concrete
extension_element positive list table = element (codes "extension") (child (codes "list") list ∷ child (table_name positive) table ∷ [])

abbrev pub regular_element : List ℕ → List ℕ → List ℕ → List ℕ → Concrete
regular_element list transitions start finals =
    element (codes "regular") (child (codes "list") list ∷ child (codes "transitions") transitions ∷ child (codes "start") start ∷ child (codes "final") finals ∷ [])

abbrev pub mdd_element : List ℕ → List ℕ → Concrete
mdd_element list transitions = element (codes "mdd") (child (codes "list") list ∷ child (codes "transitions") transitions ∷ [])

-- the element that stands for a constraint
abbrev pub element_of : List (List ℕ) → Constraint → Concrete
element_of words (Extension list tuples positive) = extension_element positive (list_text words list) (tuples_text tuples)
element_of words (Unary v spans positive) = extension_element positive (list_text words (v ∷ [])) (ranges_text spans)
element_of words (Regular list edges start finals) = regular_element (list_text words list) (transitions_text edges) (states_text (start ∷ [])) (states_text finals)
element_of words (Mdd list edges root leaf) = mdd_element (list_text words list) (transitions_text edges)
element_of words c = element [] []

-- the text of an element that has children alone: a space before each of them, and before its end tag
abbrev pub part_text : Part → List ℕ
part_text p = codes " <" ++ (p.name ++ (codes ">" ++ (p.text ++ (codes "</" ++ (p.name ++ codes ">")))))

abbrev pub element_text : Concrete → List ℕ
element_text c = codes "<" ++ (c.name ++ (codes ">" ++ (flat_map part_text c.parts ++ (codes " </" ++ (c.name ++ codes ">")))))

-- what stands round a table: behind the list, and to the end
abbrev pub opening : Bool → List ℕ
opening true = codes "</list> <supports>"
opening false = codes "</list> <conflicts>"

abbrev pub closing : Bool → List ℕ
closing true = codes "</supports> </extension>"
closing false = codes "</conflicts> </extension>"
