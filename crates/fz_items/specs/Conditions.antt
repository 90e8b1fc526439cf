-- The conditions on an item of a model, in the order in which they are asked (the fault of an item is its first missed
-- condition).
use Rattle.std.specs.Prelude.{Bool, not, List, [], ◌∷◌, Option}
use Rattle.std.specs.List.{find}
use Rattle.xf_text.specs.declared.fault.Kind.{Kind}
use Rattle.xf_text.specs.declared.fault.Kind.TheVariants as faults
use Rattle.fz_items.specs.declared.condition.Condition.{Condition}
use Rattle.fz_items.specs.declared.condition.Condition.TheVariants.{Known, Naming, Kinds, Magnitude, Shape, Counting, Bounded}
use Rattle.fz_items.specs.declared.condition.Meets.{Meets}

-- whether a condition is met
abbrev pub holds : Meets → Condition → Bool
holds m Known = m.known
holds m Naming = m.naming
holds m Kinds = m.kinds
holds m Magnitude = m.magnitude
holds m Shape = m.shape
holds m Counting = m.counting
holds m Bounded = m.bounded

-- the conditions in order
abbrev pub in_order : List Condition
in_order = Known ∷ Naming ∷ Kinds ∷ Magnitude ∷ Shape ∷ Counting ∷ Bounded ∷ []

-- those that do not bind what is written
abbrev pub lasting : List Condition
lasting = Known ∷ Naming ∷ Kinds ∷ Magnitude ∷ Shape ∷ Bounded ∷ []

-- the first of these conditions that is not met
abbrev pub first_missed : List Condition → Meets → Option Condition
first_missed asked m = find (λ k. not (holds m k)) asked

-- the kind of fault where a condition is the first that is missed
abbrev pub kind_of : Condition → Kind
kind_of Known = faults.Unknown
kind_of Naming = faults.Name
kind_of Kinds = faults.Kinds
kind_of Magnitude = faults.Range
kind_of Shape = faults.Shape
kind_of Counting = faults.Many
kind_of Bounded = faults.Unbounded
