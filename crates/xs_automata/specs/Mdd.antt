-- An `mdd` (XCSP3-core, "Constraint mdd"): a list and `transitions`, in any order.
use Rattle.std.specs.Prelude.{ℕ, ◌+◌, ◌*◌, Bool, false, ◌&&◌, List, [], length, Option, None, Some, codes}
use Rattle.xs_automata.specs.Ends.{has_ends, leaf_of, root_of, told}
use Rattle.xs_automata.specs.Numbers.{edges_from}
use Rattle.xs_automata.specs.Transitions.{steps_of, transitions_meet}
use Rattle.xs_fields.specs.Cells.{vars_meet, vars_of}
use Rattle.xs_fields.specs.declared.condition.Condition.{Condition}
use Rattle.xs_model.specs.Outline.{Outline}
use Rattle.xs_model.specs.declared.concrete.Concrete.{Concrete}
use Rattle.xs_model.specs.declared.concrete.Part.{Part}
use Rattle.xs_model.specs.declared.instance.Constraint.{Constraint}
use Rattle.xs_model.specs.declared.instance.Constraint.TheVariants.{Mdd}
use Rattle.xs_model.specs.declared.instance.Edge.{Edge}
use Rattle.xs_tables.specs.Extension.{two_texts}
use Rattle.xs_tables.specs.Groups.{spelt_meets}
use Rattle.xs_tables.specs.Tables.{sizes_meet}

abbrev pub edges_of : List ℕ → List Edge
edges_of transitions = edges_from [] (steps_of transitions)

-- what the two texts meet, where so many items may still come: there is one root, and one leaf. The list may be empty
abbrev pub diagram_meets : List Outline → ℕ → List ℕ → List ℕ → Condition → Bool
diagram_meets os left list transitions k =
    (vars_meet os list left k && transitions_meet transitions left k)
    && sizes_meet (length (vars_of os list) + 3 * length (steps_of transitions)) left (has_ends (edges_of transitions)) k

-- the constraint: a path of transitions spells the values, from the root to the leaf
abbrev pub diagram_of : List Outline → List ℕ → List ℕ → Constraint
diagram_of os list transitions = Mdd (vars_of os list) (edges_of transitions) (told (root_of (edges_of transitions))) (told (leaf_of (edges_of transitions)))

abbrev pub both_meet : List Outline → ℕ → Option (List ℕ × List ℕ) → Condition → Bool
both_meet os left None k = spelt_meets false k
both_meet os left (Some t) k = diagram_meets os left t.0 t.1 k

abbrev pub both_denote : List Outline → Option (List ℕ × List ℕ) → Constraint
both_denote os None = Mdd [] [] 0 0
both_denote os (Some t) = diagram_of os t.0 t.1

-- the texts of both children
abbrev pub both_in : List Part → Option (List ℕ × List ℕ)
both_in parts = two_texts (codes "list") (codes "transitions") parts

-- what an `mdd` meets, where so many items may still come, and the constraint
abbrev pub mdd_meets : List Outline → ℕ → Concrete → Condition → Bool
mdd_meets os left c k = both_meet os left (both_in c.parts) k

abbrev pub mdd_of : List Outline → Concrete → Constraint
mdd_of os c = both_denote os (both_in c.parts)
