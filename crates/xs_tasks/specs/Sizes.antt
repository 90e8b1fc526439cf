-- What is missed first of texts, and then of counts and lengths; how many ends there are.
use Rattle.std.specs.Prelude.{ℕ, List, length, Option, None, Some}
use Rattle.xs_fields.specs.declared.condition.Condition.{Condition}

abbrev pub ends_count : Option (List ℕ) → ℕ
ends_count None = 0
ends_count (Some ends) = length ends

-- the first, and where there is none the second
abbrev pub first_or : Option Condition → Option Condition → Option Condition
first_or None b = b
first_or (Some k) b = Some k
