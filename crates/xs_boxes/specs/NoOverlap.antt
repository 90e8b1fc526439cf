-- A `noOverlap` (XCSP3-core, "Constraint noOverlap"): `origins` and `lengths`, in any order, and whether zeros are ignored.
use Rattle.std.specs.Prelude.{ℕ, Bool, true, false, List, [], Option, None, Some, codes}
use Rattle.xs_boxes.specs.Boxes.{boxes_meet, lengths_of, origins_of}
use Rattle.xs_conditions.specs.Flags.{flag_of}
use Rattle.xs_fields.specs.declared.condition.Condition.{Condition}
use Rattle.xs_model.specs.Outline.{Outline}
use Rattle.xs_model.specs.declared.concrete.Concrete.{Concrete}
use Rattle.xs_model.specs.declared.concrete.Part.{Part}
use Rattle.xs_model.specs.declared.instance.Constraint.{Constraint}
use Rattle.xs_model.specs.declared.instance.Constraint.TheVariants.{NoOverlap}
use Rattle.xs_parts.specs.Parts.{value_among}
use Rattle.xs_tables.specs.Extension.{two_texts}
use Rattle.xs_tables.specs.Groups.{spelt_meets}

-- where the two texts are not there, that is a fault of spelling
abbrev pub given_meet : List Outline → ℕ → Option (List ℕ × List ℕ) → Condition → Bool
given_meet os left None k = spelt_meets false k
given_meet os left (Some t) k = boxes_meet os left t.0 t.1 k

abbrev pub given_denote : List Outline → Bool → Option (List ℕ × List ℕ) → Constraint
given_denote os zero_ignored None = NoOverlap [] [] zero_ignored
given_denote os zero_ignored (Some t) = NoOverlap (origins_of os t.0 t.1) (lengths_of os t.0 t.1) zero_ignored

-- the two texts
abbrev pub texts_in : List Part → Option (List ℕ × List ℕ)
texts_in parts = two_texts (codes "origins") (codes "lengths") parts

-- zeros are ignored but where `zeroIgnored` says otherwise
abbrev pub is_zero_ignored : Concrete → Bool
is_zero_ignored c = flag_of true (value_among c.attrs (codes "zeroIgnored"))

-- what a `noOverlap` meets, where so many items may still come
abbrev pub no_overlap_meets : List Outline → ℕ → Concrete → Condition → Bool
no_overlap_meets os left c k = given_meet os left (texts_in c.parts) k

-- the constraint: no two boxes overlap
abbrev pub no_overlap_of : List Outline → Concrete → Constraint
no_overlap_of os c = given_denote os (is_zero_ignored c) (texts_in c.parts)
