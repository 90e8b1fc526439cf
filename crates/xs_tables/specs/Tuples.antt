-- Tuples of a table (XCSP3-core, "Constraint extension"): `(a,*,c)`.
use Rattle.std.specs.Prelude.{ℕ, ℤ, Bool, true, false, List, [], ◌∷◌, map, Option, None, Some, Result, Ok, Err, if◌then◌else◌, codes}
use Rattle.std.specs.List.{flat_map}
use Rattle.std.specs.Option.{option_map}
use Rattle.std.specs.Str.{bytes_eq}
use Rattle.xs_fields.specs.Conditions.{all_meet, judged, meets}
use Rattle.xs_fields.specs.Integers.{integer_of, is_small}
use Rattle.xs_fields.specs.Words.{is_byte, parts}
use Rattle.xs_fields.specs.declared.condition.Condition.{Condition}
use Rattle.xs_tables.specs.Groups.{groups_meet, groups_of, inner_of, spelt_meets}

-- an entry: `*`, which agrees with every value, or an integer
abbrev pub entry_of : List ℕ → Option (Option ℤ)
entry_of word = if bytes_eq word (codes "*") then Some None else option_map Some (integer_of word)

abbrev pub is_small_entry : Option ℤ → Bool
is_small_entry None = true
is_small_entry (Some z) = is_small z

abbrev pub entry_meets : List ℕ → Condition → Bool
entry_meets word = meets is_small_entry (entry_of word)

abbrev pub entry_list : Result (Option ℤ) Condition → List (Option ℤ)
entry_list (Ok e) = e ∷ []
entry_list (Err k) = []

abbrev pub entries_in : List ℕ → List (Option ℤ)
entries_in word = entry_list (judged is_small_entry (entry_of word))

-- the words between the commas of a tuple
abbrev pub inside_meets : Option (List ℕ) → Condition → Bool
inside_meets None k = spelt_meets false k
inside_meets (Some inner) k = all_meet entry_meets (parts (is_byte 44) inner) k

abbrev pub inside_of : Option (List ℕ) → List (Option ℤ)
inside_of None = []
inside_of (Some inner) = flat_map entries_in (parts (is_byte 44) inner)

-- what a tuple meets, and the tuple
abbrev pub tuple_meets : List ℕ → Condition → Bool
tuple_meets group k = inside_meets (inner_of group) k

abbrev pub tuple_of : List ℕ → List (Option ℤ)
tuple_of group = inside_of (inner_of group)

-- what a text of tuples meets, where so many entries are allowed, and the tuples
abbrev pub tuples_meet : List ℕ → ℕ → Condition → Bool
tuples_meet text left k = groups_meet tuple_meets tuple_of text left k

abbrev pub tuples_of : List ℕ → List (List (Option ℤ))
tuples_of text = map tuple_of (groups_of text)
