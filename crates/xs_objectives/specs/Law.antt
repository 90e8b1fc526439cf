-- What is written of an objective is read again.
use Rattle.std.specs.Prelude.{◌≡◌, ℕ, Bool, true, false, List, length}
use Rattle.xs_fields.specs.declared.condition.Condition.{Condition}
use Rattle.xs_fields.specs.declared.condition.Condition.TheVariants.{Nesting, Counting}
use Rattle.xs_model.specs.Fitting.{IsFittingBody}
use Rattle.xs_model.specs.Fields.{body_fields}
use Rattle.xs_model.specs.Formed.{AreFormed}
use Rattle.xs_model.specs.Names.{words}
use Rattle.xs_model.specs.Outline.{outlines_of}
use Rattle.xs_model.specs.declared.decl.Decl.{Decl}
use Rattle.xs_model.specs.declared.instance.Objective.{Objective}
use Rattle.xs_notation.specs.Law.{AreDeclared}
use Rattle.xs_objectives.specs.Objective.{objective_meets, objective_of}
use Rattle.xs_objectives.specs.Written.{element_of}

-- a condition that is a limit on what is read: the depth of a text, and counts
abbrev pub is_limit : Condition → Bool
is_limit Nesting = true
is_limit Counting = true
is_limit k = false

-- the element of an objective meets all conditions but the limits, and denotes it
pub record IsReadAgain (ds : List Decl) (o : Objective) : Type 0 where
  pub meets : (left : ℕ) (k : Condition) → is_limit k ≡ false → objective_meets (outlines_of ds) left (element_of (words ds) o) k ≡ true
  pub same : objective_of (outlines_of ds) (element_of (words ds) o) ≡ o

-- an objective of the shape that it asks for, over sound declarations
pub record WrittenAgain : Type 0 where
  pub read : (ds : List Decl) (o : Objective) → AreDeclared ds → AreFormed (length (words ds)) (body_fields o.body) → IsFittingBody o.body → IsReadAgain ds o
