-- A `regular` (XCSP3-core, "Constraint regular"): a list, `transitions`, `start` and `final`, in any order.
use Rattle.std.specs.Prelude.{ℕ, ◌+◌, ◌*◌, Bool, false, ◌&&◌, nat_eq, nat_lt, is_some, List, [], length, if◌then◌else◌, codes}
use Rattle.xs_automata.specs.Numbers.{edges_from, number_of, numbers_from, with_name, with_steps}
use Rattle.xs_automata.specs.Transitions.{state_meets, state_of, states_meet, states_of, steps_of, transitions_meet}
use Rattle.xs_fields.specs.Cells.{vars_meet, vars_of}
use Rattle.xs_fields.specs.declared.condition.Condition.{Condition}
use Rattle.xs_model.specs.Outline.{Outline}
use Rattle.xs_model.specs.declared.concrete.Concrete.{Concrete}
use Rattle.xs_model.specs.declared.concrete.Part.{Part}
use Rattle.xs_model.specs.declared.instance.Constraint.{Constraint}
use Rattle.xs_model.specs.declared.instance.Constraint.TheVariants.{Regular}
use Rattle.xs_parts.specs.Parts.{or_else, part_in}
use Rattle.xs_tables.specs.Extension.{text_in}
use Rattle.xs_tables.specs.Groups.{spelt_meets}
use Rattle.xs_tables.specs.Tables.{sizes_meet}

-- there is a child with this name, and its text
abbrev pub is_there : List ℕ → List Part → Bool
is_there name parts = is_some (part_in name parts)

abbrev pub text_of : List ℕ → List Part → List ℕ
text_of name parts = or_else (text_in name parts) []

-- the children are one of each
abbrev pub are_parts : List Part → Bool
are_parts parts =
    nat_eq (length parts) 4
    && (is_there (codes "list") parts && (is_there (codes "transitions") parts && (is_there (codes "start") parts && is_there (codes "final") parts)))

-- the items: each list member, three for each transition, and each start and final state
abbrev pub items_in : List Outline → List ℕ → List ℕ → List ℕ → ℕ
items_in os list transitions final = length (vars_of os list) + (3 * length (steps_of transitions) + (1 + length (states_of final)))

-- what the four texts meet, where so many items may still come: the list is not empty
abbrev pub automaton_meets : List Outline → ℕ → List ℕ → List ℕ → List ℕ → List ℕ → Condition → Bool
automaton_meets os left list transitions start final k =
    (vars_meet os list left k && (transitions_meet transitions left k && (state_meets start k && states_meet final left k)))
    && sizes_meet (items_in os list transitions final) left (nat_lt 0 (length (vars_of os list))) k

-- the constraint: a path of transitions spells the values, from the start to a final state
abbrev pub automaton_of : List Outline → List ℕ → List ℕ → List ℕ → List ℕ → Constraint
automaton_of os list transitions start final =
    Regular (vars_of os list) (edges_from [] (steps_of transitions)) (number_of (with_steps [] (steps_of transitions)) (state_of start))
    (numbers_from (with_name (with_steps [] (steps_of transitions)) (state_of start)) (states_of final))

abbrev pub parts_meet : List Outline → ℕ → List Part → Condition → Bool
parts_meet os left parts k =
    if are_parts parts then automaton_meets os left (text_of (codes "list") parts) (text_of (codes "transitions") parts) (text_of (codes "start") parts) (text_of (codes "final") parts) k
    else spelt_meets false k

abbrev pub parts_denote : List Outline → List Part → Constraint
parts_denote os parts = automaton_of os (text_of (codes "list") parts) (text_of (codes "transitions") parts) (text_of (codes "start") parts) (text_of (codes "final") parts)

-- what a `regular` meets, where so many items may still come, and the constraint
abbrev pub regular_meets : List Outline → ℕ → Concrete → Condition → Bool
regular_meets os left c k = parts_meet os left c.parts k

abbrev pub regular_of : List Outline → Concrete → Constraint
regular_of os c = parts_denote os c.parts
