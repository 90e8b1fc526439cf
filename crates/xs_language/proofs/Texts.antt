-- What is read of the texts of a constraint, child by child.
use Rattle.std.proofs.Common.{◌≡◌, ℕ, ◌≤◌, Bool, true, List, [], ◌∷◌, None}
use Rattle.xs_automata.specs.Mdd.{diagram_meets, diagram_of}
use Rattle.xs_automata.specs.Regular.{automaton_meets, automaton_of}
use Rattle.xs_fields.specs.Conditions.{first_missed}
use Rattle.xs_fields.specs.declared.condition.Condition.{Condition}
use Rattle.xs_language.specs.Written.{list_text, ranges_text, states_text, transitions_text, tuples_text}
use Rattle.xs_model.specs.Accepted.{items_of}
use Rattle.xs_model.specs.Names.{words}
use Rattle.xs_model.specs.Outline.{Outline, outlines_of}
use Rattle.xs_model.specs.declared.decl.Decl.{Decl}
use Rattle.xs_model.specs.declared.instance.Constraint.{Constraint}
use Rattle.xs_model.specs.declared.instance.Constraint.TheVariants.{Extension, Mdd, Regular, Unary}
use Rattle.xs_tables.specs.Tables.{table_meets, table_of}

-- what the texts of a constraint meet, and the constraint that they denote
abbrev pub texts_meet : List Outline → ℕ → List (List ℕ) → Constraint → Condition → Bool
texts_meet os left words (Extension list tuples positive) k = table_meets os left (list_text words list) (tuples_text tuples) k
texts_meet os left words (Unary v spans positive) k = table_meets os left (list_text words (v ∷ [])) (ranges_text spans) k
texts_meet os left words (Regular list edges start finals) k = automaton_meets os left (list_text words list) (transitions_text edges) (states_text (start ∷ [])) (states_text finals) k
texts_meet os left words (Mdd list edges root leaf) k = diagram_meets os left (list_text words list) (transitions_text edges) k
texts_meet os left words c k = true

abbrev pub texts_denote : List Outline → List (List ℕ) → Constraint → Constraint
texts_denote os words (Extension list tuples positive) = table_of os (list_text words list) (tuples_text tuples) positive
texts_denote os words (Unary v spans positive) = table_of os (list_text words (v ∷ [])) (ranges_text spans) positive
texts_denote os words (Regular list edges start finals) = automaton_of os (list_text words list) (transitions_text edges) (states_text (start ∷ [])) (states_text finals)
texts_denote os words (Mdd list edges root leaf) = diagram_of os (list_text words list) (transitions_text edges)
texts_denote os words c = c

-- the texts of a constraint miss nothing, where its items are allowed, and denote it
pub record AreReadAgain (ds : List Decl) (c : Constraint) : Type 0 where
  pub meets : (left : ℕ) → items_of c ≤ left → first_missed (texts_meet (outlines_of ds) left (words ds) c) ≡ None
  pub same : texts_denote (outlines_of ds) (words ds) c ≡ c
