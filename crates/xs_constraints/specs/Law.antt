-- What is read of a constraint that misses nothing.
use Rattle.std.specs.Prelude.{◌≡◌, ℕ, ◌≤◌, true, List, None}
use Rattle.xs_constraints.specs.Forms.{form_meets, form_of}
use Rattle.xs_fields.specs.Conditions.{first_missed}
use Rattle.xs_model.specs.Accepted.{IsFormed, is_built, items_of}
use Rattle.xs_model.specs.Outline.{Outline, variables_in}
use Rattle.xs_model.specs.declared.concrete.Concrete.{Concrete}

-- a constraint that misses nothing is of the shape of its form, over declared variables, and has no more items than are left; each
-- is of a form that is built
pub record AreGoodForms : Type 0 where
  pub formed : (os : List Outline) (left : ℕ) (c : Concrete) → first_missed (form_meets os left c) ≡ None → IsFormed (variables_in os) (form_of os c)
  pub few : (os : List Outline) (left : ℕ) (c : Concrete) → first_missed (form_meets os left c) ≡ None → items_of (form_of os c) ≤ left
  pub built : (os : List Outline) (c : Concrete) → is_built (form_of os c) ≡ true
