-- The types of objectives (XCSP3-core, "Objectives"): what is to be least or greatest.
use Rattle.std.specs.Prelude.{ℕ, Bool, false, ◌||◌, List, Option, None, Some, if◌then◌else◌, codes}
use Rattle.std.specs.Str.{bytes_eq}
use Rattle.xs_objectives.specs.declared.measure.Measure.{Measure}
use Rattle.xs_objectives.specs.declared.measure.Measure.TheVariants.{Expression, Sum, Minimum, Maximum, Distinct}

-- the type with this name
abbrev pub named : List ℕ → Option Measure
named text =
    if bytes_eq text (codes "expression") then Some Expression
    else if bytes_eq text (codes "sum") then Some Sum
    else if bytes_eq text (codes "minimum") then Some Minimum
    else if bytes_eq text (codes "maximum") then Some Maximum
    else if bytes_eq text (codes "nValues") then Some Distinct
    else None

-- the type that an attribute names; without one it is an expression
abbrev pub measure_of : Option (List ℕ) → Option Measure
measure_of None = Some Expression
measure_of (Some text) = named text

-- the children of an objective of a type
abbrev pub is_child_of : Measure → List ℕ → Bool
is_child_of Expression name = false
is_child_of Sum name = bytes_eq name (codes "list") || bytes_eq name (codes "coeffs")
is_child_of Minimum name = bytes_eq name (codes "list")
is_child_of Maximum name = bytes_eq name (codes "list")
is_child_of Distinct name = bytes_eq name (codes "list")
