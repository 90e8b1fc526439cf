-- How a list is read word after word, each word looked at once.
use Rattle.std.specs.Prelude.{ℕ, ◌-◌, Bool, true, false, nat_le, List, length, Option, None, Some}
use Rattle.xs_fields.specs.Conditions.{earlier_of}
use Rattle.xs_fields.specs.declared.condition.Condition.{Condition}
use Rattle.xs_fields.specs.declared.condition.Condition.TheVariants.{Counting}

-- so many members more keep the limit on the length of a list
abbrev pub have_room : {A : Type 0} → ℕ → List A → ℕ → Bool
have_room left list count = nat_le count (left - length list)

-- what is missed with one word more, which misses this by itself, where its members have room or not
abbrev pub joined : Option Condition → Option Condition → Bool → Option Condition
joined None None true = None
joined None None false = Some Counting
joined None (Some k) room = Some k
joined (Some j) judged room = earlier_of (Some j) judged
