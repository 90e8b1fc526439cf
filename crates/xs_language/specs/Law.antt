-- What is written of an `extension`, a `regular` and an `mdd` is read again.
use Rattle.std.specs.Prelude.{◌≡◌, ℕ, ◌<◌, ◌≤◌, ◌^◌, Bool, true, false, List, length, None}
use Rattle.std.specs.List.{AllByRecursion}
use Rattle.xs_fields.specs.Conditions.{first_missed}
use Rattle.xs_fields.specs.declared.condition.Condition.{Condition}
use Rattle.xs_fields.specs.declared.condition.Condition.TheVariants.{Counting}
use Rattle.xs_forms.specs.Room.{states_of}
use Rattle.xs_language.specs.Language.{form_meets, form_of, is_language}
use Rattle.xs_language.specs.Written.{element_of}
use Rattle.xs_model.specs.Accepted.{IsFormed, items_of}
use Rattle.xs_model.specs.Names.{words}
use Rattle.xs_model.specs.Outline.{outlines_of}
use Rattle.xs_model.specs.declared.decl.Decl.{Decl}
use Rattle.xs_model.specs.declared.instance.Constraint.{Constraint}
use Rattle.xs_notation.specs.Law.{AreDeclared}

-- the one condition that is a limit on what is read here, since no text of these forms is nested: counts
abbrev pub is_limit : Condition → Bool
is_limit Counting = true
is_limit k = false

-- the element of a constraint meets all conditions but the limit, and the limit too where so many items may still come, and
-- denotes the constraint
pub record IsReadAgain (ds : List Decl) (c : Constraint) : Type 0 where
  pub meets : (left : ℕ) (k : Condition) → is_limit k ≡ false → form_meets (outlines_of ds) left (element_of (words ds) c) k ≡ true
  pub allowed : (left : ℕ) → items_of c ≤ left → first_missed (form_meets (outlines_of ds) left (element_of (words ds) c)) ≡ None
  pub same : form_of (outlines_of ds) (element_of (words ds) c) ≡ c

-- a constraint of the shape of its form, over sound declarations, whose states are numbers of 32 bits, as the states of a
-- constraint are
abbrev pub WrittenAgain : Type 0
WrittenAgain =
    (ds : List Decl) (c : Constraint) → is_language c ≡ true → AreDeclared ds → IsFormed (length (words ds)) c → AllByRecursion (λ q. q < 2 ^ 32) (states_of c) → IsReadAgain ds c
