-- The sizes of an array (XCSP3-core, `size="[n][m]"`).
use Rattle.std.specs.Prelude.{ℕ, ◌-◌, Bool, true, false, ◌&&◌, ℤ, nat_eq, List, [], ◌∷◌, length, take, drop, Option, None, Some, if◌then◌else◌, Result, Ok, Err, codes}
use Rattle.std.specs.List.{ends_with, flat_map}
use Rattle.xs_fields.specs.Conditions.{all_meet, judged, meets}
use Rattle.xs_fields.specs.Integers.{integer_of, is_small}
use Rattle.xs_fields.specs.Words.{is_byte, parts}
use Rattle.xs_fields.specs.declared.condition.Condition.{Condition}
use Rattle.xs_fields.specs.declared.condition.Condition.TheVariants.{Spelling}

-- what stands before the `]` that ends a part
abbrev pub inner_of : List ℕ → Option (List ℕ)
inner_of part = if ends_with nat_eq part (codes "]") then Some (take (length part - 1) part) else None

-- the parts behind each `[`
abbrev pub brackets_of : List ℕ → List (List ℕ)
brackets_of text = drop 1 (parts (is_byte 91) text)

abbrev pub integer_in : Option (List ℕ) → Option ℤ
integer_in None = None
integer_in (Some text) = integer_of text

-- a size `n]`
abbrev pub size_of : List ℕ → Option ℤ
size_of part = integer_in (inner_of part)

abbrev pub size_meets : List ℕ → Condition → Bool
size_meets part = meets is_small (size_of part)

-- at least one bracket, and nothing before the first
abbrev pub front_meets : List (List ℕ) → Condition → Bool
front_meets ([] ∷ p ∷ ps) k = true
front_meets ps Spelling = false
front_meets ps k = true

-- what sizes meet
abbrev pub sizes_meet : List ℕ → Condition → Bool
sizes_meet text k = front_meets (parts (is_byte 91) text) k && all_meet size_meets (brackets_of text) k

abbrev pub value_list : Result ℤ Condition → List ℤ
value_list (Ok n) = n ∷ []
value_list (Err k) = []

-- the size that a part spells
abbrev pub size_list : List ℕ → List ℤ
size_list part = value_list (judged is_small (size_of part))

-- the sizes that a text denotes
abbrev pub sizes_of : List ℕ → List ℤ
sizes_of text = flat_map size_list (brackets_of text)
