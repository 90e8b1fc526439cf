-- The forms that are read, written and tested here (XCSP3-core, "Constraint extension", "Constraint regular" and
-- "Constraint mdd").
use Rattle.std.specs.Prelude.{ℕ, Bool, true, false, ◌||◌, List, codes, if◌then◌else◌}
use Rattle.std.specs.Str.{bytes_eq}
use Rattle.xs_automata.specs.Mdd.{mdd_meets, mdd_of}
use Rattle.xs_automata.specs.Regular.{regular_meets, regular_of}
use Rattle.xs_fields.specs.declared.condition.Condition.{Condition}
use Rattle.xs_model.specs.Outline.{Outline}
use Rattle.xs_model.specs.declared.concrete.Concrete.{Concrete}
use Rattle.xs_model.specs.declared.instance.Constraint.{Constraint}
use Rattle.xs_model.specs.declared.instance.Constraint.TheVariants.{Extension, Mdd, Regular, Unary}
use Rattle.xs_tables.specs.Extension.{extension_meets, extension_of}

-- the names of these forms
abbrev pub is_form : List ℕ → Bool
is_form name = bytes_eq name (codes "extension") || (bytes_eq name (codes "regular") || bytes_eq name (codes "mdd"))

-- what a constraint of one of these forms meets, where so many items may still come
abbrev pub form_meets : List Outline → ℕ → Concrete → Condition → Bool
form_meets os left c k =
    if bytes_eq c.name (codes "extension") then extension_meets os left c k else (if bytes_eq c.name (codes "regular") then regular_meets os left c k else mdd_meets os left c k)

-- the constraint
abbrev pub form_of : List Outline → Concrete → Constraint
form_of os c = if bytes_eq c.name (codes "extension") then extension_of os c else (if bytes_eq c.name (codes "regular") then regular_of os c else mdd_of os c)

-- a constraint of these forms
abbrev pub is_language : Constraint → Bool
is_language (Extension list tuples positive) = true
is_language (Unary v spans positive) = true
is_language (Regular list edges start finals) = true
is_language (Mdd list edges root leaf) = true
is_language c = false
