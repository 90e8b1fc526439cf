-- A `cumulative` (XCSP3-core, "Constraint cumulative"): its children, what they meet, and the constraint.
use Rattle.std.specs.Prelude.{ℕ, ◌+◌, Bool, true, false, ◌&&◌, ◌||◌, nat_eq, List, [], length, is_some, Option, None, Some, codes}
use Rattle.std.specs.List.{starts_with}
use Rattle.std.specs.Option.{option_map}
use Rattle.xs_conditions.specs.Conditions.{condition_meets, condition_of}
use Rattle.xs_conditions.specs.Spelling.{word_in}
use Rattle.xs_fields.specs.Cells.{vars_meet, vars_of}
use Rattle.xs_fields.specs.Terms.{terms_meet, terms_of}
use Rattle.xs_fields.specs.declared.condition.Condition.{Condition}
use Rattle.xs_model.specs.Formed.{items_of}
use Rattle.xs_model.specs.Outline.{Outline}
use Rattle.xs_model.specs.declared.concrete.Concrete.{Concrete}
use Rattle.xs_model.specs.declared.concrete.Part.{Part}
use Rattle.xs_model.specs.declared.instance.Constraint.{Constraint}
use Rattle.xs_model.specs.declared.instance.Constraint.TheVariants.{Cumulative}
use Rattle.xs_parts.specs.Parts.{or_else}
use Rattle.xs_tables.specs.Extension.{text_in}
use Rattle.xs_tables.specs.Tables.{sizes_meet}
use Rattle.xs_var.specs.Variable.{spelling_meets}

-- the text of a child, blank where it is not there
abbrev pub child_text : List ℕ → List Part → List ℕ
child_text name parts = or_else (text_in name parts) []

abbrev pub has_child : List ℕ → List Part → Bool
has_child name parts = is_some (text_in name parts)

-- how many children there are, with ends or without
abbrev pub child_count : Bool → ℕ
child_count true = 5
child_count false = 4

-- origins, lengths, heights, a condition, and perhaps ends: each once, and nothing beside them
abbrev pub are_children : List Part → Bool
are_children parts =
    ((has_child (codes "origins") parts && has_child (codes "lengths") parts) && (has_child (codes "heights") parts && has_child (codes "condition") parts))
    && nat_eq (length parts) (child_count (has_child (codes "ends") parts))

-- the operator is `lt` or `le`
abbrev pub is_limit_word : Option (List ℕ) → Bool
is_limit_word None = false
is_limit_word (Some word) = starts_with nat_eq word (codes "(lt,") || starts_with nat_eq word (codes "(le,")

-- what the text of the condition meets: it is a condition with one of these operators
abbrev pub limit_meets : List Outline → ℕ → List ℕ → Condition → Bool
limit_meets os left text k = spelling_meets (is_limit_word (word_in text)) k && condition_meets os text left k

-- the text of the ends, where it is there
abbrev pub ends_meet : List Outline → ℕ → Option (List ℕ) → Condition → Bool
ends_meet os left None k = true
ends_meet os left (Some text) k = vars_meet os text left k

abbrev pub ends_of : List Outline → Option (List ℕ) → Option (List ℕ)
ends_of os text = option_map (vars_of os) text

-- what the texts meet, where so many items may still come
abbrev pub texts_meet : List Outline → ℕ → List Part → Condition → Bool
texts_meet os left parts k =
    (vars_meet os (child_text (codes "origins") parts) left k && terms_meet os (child_text (codes "lengths") parts) left k)
    && ((terms_meet os (child_text (codes "heights") parts) left k && ends_meet os left (text_in (codes "ends") parts) k) && limit_meets os left (child_text (codes "condition") parts) k)

-- the constraint of the texts
abbrev pub tasks_of : List Outline → List Part → Constraint
tasks_of os parts =
    Cumulative (vars_of os (child_text (codes "origins") parts)) (terms_of os (child_text (codes "lengths") parts)) (terms_of os (child_text (codes "heights") parts)) (ends_of os (text_in (codes "ends") parts))
    (condition_of os (child_text (codes "condition") parts))

abbrev pub are_as_many : ℕ → Option (List ℕ) → Bool
are_as_many n None = true
are_as_many n (Some ends) = nat_eq (length ends) n

-- there are as many lengths, heights and ends as origins
abbrev pub are_even : Constraint → Bool
are_even (Cumulative origins lengths heights ends cond) = (nat_eq (length lengths) (length origins) && nat_eq (length heights) (length origins)) && are_as_many (length origins) ends
are_even c = false

-- what texts, counts and lengths meet
abbrev pub tasks_meet : List Outline → ℕ → List Part → Condition → Bool
tasks_meet os left parts k = texts_meet os left parts k && sizes_meet (items_of (tasks_of os parts)) left (are_even (tasks_of os parts)) k

-- what a `cumulative` meets, where so many items may still come
abbrev pub cumulative_meets : List Outline → ℕ → Concrete → Condition → Bool
cumulative_meets os left c k = spelling_meets (are_children c.parts) k && tasks_meet os left c.parts k

-- the constraint
abbrev pub cumulative_of : List Outline → Concrete → Constraint
cumulative_of os c = tasks_of os c.parts
