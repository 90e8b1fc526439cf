-- What is written of a `noOverlap` is read again.
use Rattle.std.specs.Prelude.{◌≡◌, ℕ, Bool, true, false, List, length}
use Rattle.xs_boxes.specs.NoOverlap.{no_overlap_meets, no_overlap_of}
use Rattle.xs_boxes.specs.Written.{element_of}
use Rattle.xs_fields.specs.declared.condition.Condition.{Condition}
use Rattle.xs_fields.specs.declared.condition.Condition.TheVariants.{Nesting, Counting}
use Rattle.xs_model.specs.Accepted.{IsFormed}
use Rattle.xs_model.specs.Names.{words}
use Rattle.xs_model.specs.Outline.{outlines_of}
use Rattle.xs_model.specs.declared.decl.Decl.{Decl}
use Rattle.xs_model.specs.declared.instance.Constraint.TheVariants.{NoOverlap}
use Rattle.xs_model.specs.declared.term.Term.{Term}
use Rattle.xs_notation.specs.Law.{AreDeclared}

-- a condition that is a limit on what is read: the depth of a text, and counts
abbrev pub is_limit : Condition → Bool
is_limit Nesting = true
is_limit Counting = true
is_limit k = false

-- the element of a constraint meets all conditions but the limits, and denotes it
pub record IsReadAgain (ds : List Decl) (origins : List (List ℕ)) (lengths : List (List Term)) (zero_ignored : Bool) : Type 0 where
  pub meets : (left : ℕ) (k : Condition) → is_limit k ≡ false → no_overlap_meets (outlines_of ds) left (element_of (words ds) origins lengths zero_ignored) k ≡ true
  pub same : no_overlap_of (outlines_of ds) (element_of (words ds) origins lengths zero_ignored) ≡ NoOverlap origins lengths zero_ignored

-- a constraint of the shape of its form, over sound declarations
pub record WrittenAgain : Type 0 where
  pub read : (ds : List Decl) (origins : List (List ℕ)) (lengths : List (List Term)) (zero_ignored : Bool)
      → AreDeclared ds → IsFormed (length (words ds)) (NoOverlap origins lengths zero_ignored) → IsReadAgain ds origins lengths zero_ignored
