-- What is written of a `cumulative` is read again.
use Rattle.std.specs.Prelude.{◌≡◌, ℕ, Bool, true, false, List, length}
use Rattle.xs_fields.specs.declared.condition.Condition.{Condition}
use Rattle.xs_fields.specs.declared.condition.Condition.TheVariants.{Counting}
use Rattle.xs_model.specs.Accepted.{IsFormed}
use Rattle.xs_model.specs.Names.{words}
use Rattle.xs_model.specs.Outline.{outlines_of}
use Rattle.xs_model.specs.declared.decl.Decl.{Decl}
use Rattle.xs_model.specs.declared.instance.Constraint.{Constraint}
use Rattle.xs_notation.specs.Law.{AreDeclared}
use Rattle.xs_tasks.specs.Tasks.{cumulative_meets, cumulative_of}
use Rattle.xs_tasks.specs.Tested.{is_cumulative}
use Rattle.xs_tasks.specs.Written.{element_of}

-- the condition that is a limit on what is read
abbrev pub is_count : Condition → Bool
is_count Counting = true
is_count k = false

-- the element of a constraint meets all conditions but the limit on items, and denotes it
pub record IsReadAgain (ds : List Decl) (c : Constraint) : Type 0 where
  pub meets : (left : ℕ) (k : Condition) → is_count k ≡ false → cumulative_meets (outlines_of ds) left (element_of (words ds) c) k ≡ true
  pub same : cumulative_of (outlines_of ds) (element_of (words ds) c) ≡ c

-- a `cumulative` of the shape of its form, over sound declarations
pub record WrittenAgain : Type 0 where
  pub read : (ds : List Decl) (c : Constraint) → is_cumulative c ≡ true → AreDeclared ds → IsFormed (length (words ds)) c → IsReadAgain ds c
