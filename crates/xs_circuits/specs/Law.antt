-- What is written of a `circuit` is read again.
use Rattle.std.specs.Prelude.{◌≡◌, ℕ, ℤ, Bool, true, false, List, length, Option}
use Rattle.xs_fields.specs.declared.condition.Condition.{Condition}
use Rattle.xs_fields.specs.declared.condition.Condition.TheVariants.{Counting}
use Rattle.xs_model.specs.Accepted.{IsFormed}
use Rattle.xs_model.specs.Names.{words}
use Rattle.xs_model.specs.Outline.{outlines_of}
use Rattle.xs_model.specs.declared.decl.Decl.{Decl}
use Rattle.xs_model.specs.declared.instance.Constraint.TheVariants.{Circuit}
use Rattle.xs_model.specs.declared.term.Term.{Term}
use Rattle.xs_notation.specs.Law.{AreDeclared}
use Rattle.xs_circuits.specs.Circuit.{circuit_meets, circuit_of}
use Rattle.xs_circuits.specs.Written.{element_of}

-- a condition that is a limit on what is read: counts
abbrev pub is_limit : Condition → Bool
is_limit Counting = true
is_limit k = false

-- the element of a circuit meets all conditions but the limits, and denotes it
pub record IsReadAgain (ds : List Decl) (list : List ℕ) (start : ℤ) (size : Option Term) : Type 0 where
  pub meets : (left : ℕ) (k : Condition) → is_limit k ≡ false → circuit_meets (outlines_of ds) left (element_of (words ds) list start size) k ≡ true
  pub same : circuit_of (outlines_of ds) (element_of (words ds) list start size) ≡ Circuit list start size

-- a circuit that is well formed, over sound declarations
abbrev pub WrittenAgain : Type 0
WrittenAgain = (ds : List Decl) (list : List ℕ) (start : ℤ) (size : Option Term) → AreDeclared ds → IsFormed (length (words ds)) (Circuit list start size) → IsReadAgain ds list start size
