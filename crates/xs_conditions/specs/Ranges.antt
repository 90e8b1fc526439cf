-- Ranges `a..b` with a at most b (XCSP3-core, integer intervals).
use Rattle.std.specs.Prelude.{ℕ, Bool, ℤ, pos, nat_eq, List, [], ◌∷◌, Option, None, Some, if◌then◌else◌}
use Rattle.xf_num.specs.Span.{Bounds}
use Rattle.xs_fields.specs.Conditions.{meets}
use Rattle.xs_fields.specs.Integers.{integer_of}
use Rattle.xs_fields.specs.Lists.{has_small_ends, point, range_of}
use Rattle.xs_fields.specs.declared.condition.Condition.{Condition}
use Rattle.xs_conditions.specs.Spelling.{halves_of}

-- the range from a low end to what stands behind a further dot
abbrev pub range_from : List ℕ → List ℕ → Option Bounds
range_from low [] = None
range_from low (b ∷ high) = if nat_eq b 46 then range_of (integer_of low) (integer_of high) else None

abbrev pub range_between : Option (List ℕ × List ℕ) → Option Bounds
range_between None = None
range_between (Some h) = range_from h.0 h.1

-- the range that a word spells
abbrev pub range_in : List ℕ → Option Bounds
range_in word = range_between (halves_of 46 word)

abbrev pub range_meets : List ℕ → Condition → Bool
range_meets word = meets has_small_ends (range_in word)

abbrev pub bounds_in : Option Bounds → Bounds
bounds_in None = point (pos 0)
bounds_in (Some b) = b
