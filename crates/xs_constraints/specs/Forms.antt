-- The forms of constraints that are read (XCSP3-core, "Constraints"), by their names: each by the crate of its family.
use Rattle.std.specs.Prelude.{ℕ, Bool, false, ◌||◌, List, if◌then◌else◌}
use Rattle.xs_fields.specs.declared.condition.Condition.{Condition}
use Rattle.xs_language.specs.Language as language
use Rattle.xs_model.specs.Outline.{Outline}
use Rattle.xs_model.specs.declared.concrete.Concrete.{Concrete}
use Rattle.xs_model.specs.declared.instance.Constraint.{Constraint}
use Rattle.xs_relate.specs.Forms as related
use Rattle.xs_var.specs.Variable.{known_meets}

-- the names of all forms
abbrev pub is_form : List ℕ → Bool
is_form name = language.is_form name || related.is_form name

-- what a constraint meets, where so many items may still come; one of a form that is not known meets nothing
abbrev pub form_meets : List Outline → ℕ → Concrete → Condition → Bool
form_meets os left c k =
    if language.is_form c.name then language.form_meets os left c k
    else if related.is_form c.name then related.form_meets os left c k
    else known_meets false k

-- the constraint
abbrev pub form_of : List Outline → Concrete → Constraint
form_of os c = if language.is_form c.name then language.form_of os c else related.form_of os c
