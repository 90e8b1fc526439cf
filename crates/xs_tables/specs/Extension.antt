-- An `extension` (XCSP3-core, "Constraint extension"): a list, and `supports` or `conflicts`, in any order.
use Rattle.std.specs.Prelude.{ℕ, Bool, true, false, nat_eq, List, [], length, Option, None, Some, if◌then◌else◌, codes}
use Rattle.std.specs.Option.{option_map}
use Rattle.xs_fields.specs.declared.condition.Condition.{Condition}
use Rattle.xs_model.specs.Outline.{Outline}
use Rattle.xs_model.specs.declared.concrete.Concrete.{Concrete}
use Rattle.xs_model.specs.declared.concrete.Part.{Part}
use Rattle.xs_model.specs.declared.instance.Constraint.{Constraint}
use Rattle.xs_model.specs.declared.instance.Constraint.TheVariants.{Extension}
use Rattle.xs_parts.specs.Parts.{part_in}
use Rattle.xs_tables.specs.Groups.{spelt_meets}
use Rattle.xs_tables.specs.Tables.{table_meets, table_of}

-- the text of the first child with this name
abbrev pub text_in : List ℕ → List Part → Option (List ℕ)
text_in name parts = option_map (λ p. p.text) (part_in name parts)

abbrev pub both_of : Option (List ℕ) → Option (List ℕ) → Option (List ℕ × List ℕ)
both_of None b = None
both_of (Some a) None = None
both_of (Some a) (Some b) = Some (a, b)

-- the texts of two children with these names, where nothing else stands beside them
abbrev pub two_texts : List ℕ → List ℕ → List Part → Option (List ℕ × List ℕ)
two_texts first second parts = if nat_eq (length parts) 2 then both_of (text_in first parts) (text_in second parts) else None

-- what they meet: they are there
abbrev pub supported_meets : List Outline → ℕ → Option (List ℕ × List ℕ) → Option (List ℕ × List ℕ) → Condition → Bool
supported_meets os left (Some t) conflicts k = table_meets os left t.0 t.1 k
supported_meets os left None (Some t) k = table_meets os left t.0 t.1 k
supported_meets os left None None k = spelt_meets false k

abbrev pub supported_of : List Outline → Option (List ℕ × List ℕ) → Option (List ℕ × List ℕ) → Constraint
supported_of os (Some t) conflicts = table_of os t.0 t.1 true
supported_of os None (Some t) = table_of os t.0 t.1 false
supported_of os None None = Extension [] [] true

abbrev pub parts_meet : List Outline → ℕ → List Part → Condition → Bool
parts_meet os left parts k = supported_meets os left (two_texts (codes "list") (codes "supports") parts) (two_texts (codes "list") (codes "conflicts") parts) k

abbrev pub parts_denote : List Outline → List Part → Constraint
parts_denote os parts = supported_of os (two_texts (codes "list") (codes "supports") parts) (two_texts (codes "list") (codes "conflicts") parts)

-- what an `extension` meets, where so many items may still come
abbrev pub extension_meets : List Outline → ℕ → Concrete → Condition → Bool
extension_meets os left c k = parts_meet os left c.parts k

-- the constraint: a tuple of supports agrees with the values, or none of conflicts does
abbrev pub extension_of : List Outline → Concrete → Constraint
extension_of os c = parts_denote os c.parts
