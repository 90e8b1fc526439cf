-- Whether an entry of a tuple agrees with a value (XCSP3-core, "Constraint extension"): `*` does with each.
use Rattle.std.specs.Prelude.{ℤ, Bool, true, false, not, Option, None, Some}
use Rattle.std.specs.Ordering.{int_eq}

abbrev pub is_met : Option ℤ → ℤ → Bool
is_met None x = true
is_met (Some z) x = int_eq x z

-- some of them, or none, as it is asked
abbrev pub is_asked : Bool → Bool → Bool
is_asked true some = some
is_asked false some = not some
