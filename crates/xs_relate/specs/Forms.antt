-- The forms that compare values (XCSP3-core, "Comparison-based constraints"; "Constraint intension").
use Rattle.std.specs.Prelude.{ℕ, Bool, ◌||◌, List, codes, if◌then◌else◌}
use Rattle.std.specs.Str.{bytes_eq}
use Rattle.xs_fields.specs.declared.condition.Condition.{Condition}
use Rattle.xs_model.specs.Outline.{Outline}
use Rattle.xs_model.specs.declared.concrete.Concrete.{Concrete}
use Rattle.xs_model.specs.declared.instance.Constraint.{Constraint}
use Rattle.xs_relate.specs.Different.{different_meets, different_of}
use Rattle.xs_relate.specs.Intension.{intension_meets, intension_of}

-- the names of these forms
abbrev pub is_form : List ℕ → Bool
is_form name = bytes_eq name (codes "allDifferent") || bytes_eq name (codes "intension")

-- what a constraint of one of these forms meets, where so many items may still come
abbrev pub form_meets : List Outline → ℕ → Concrete → Condition → Bool
form_meets os left c k = if bytes_eq c.name (codes "allDifferent") then different_meets os left c k else intension_meets os left c k

-- the constraint
abbrev pub form_of : List Outline → Concrete → Constraint
form_of os c = if bytes_eq c.name (codes "allDifferent") then different_of os c else intension_of os c
