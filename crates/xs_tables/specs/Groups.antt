-- How a list of tuples or of transitions is cut (XCSP3-core, "Constraint extension" and "Constraint regular"): each stands in
-- parentheses, whitespace is free between them, and nowhere inside.
use Rattle.std.specs.Prelude.{ℕ, ◌-◌, nat_le, Bool, true, ◌&&◌, nat_eq, List, [], ◌∷◌, length, Option, None, Some, if◌then◌else◌}
use Rattle.std.specs.List.{flat_map}
use Rattle.xs_fields.specs.Conditions.{all_meet}
use Rattle.xs_fields.specs.Lists.{count_meets}
use Rattle.xs_fields.specs.Words.{is_byte, is_space, parts, words_of}
use Rattle.xs_fields.specs.declared.condition.Condition.{Condition}
use Rattle.xs_fields.specs.declared.condition.Condition.TheVariants.{Spelling}

abbrev pub front_of : List (List ℕ) → List (List ℕ)
front_of [] = []
front_of (p ∷ []) = []
front_of (p ∷ q ∷ ps) = p ∷ front_of (q ∷ ps)

abbrev pub last_of : List (List ℕ) → List ℕ
last_of [] = []
last_of (p ∷ []) = p
last_of (p ∷ q ∷ ps) = last_of (q ∷ ps)

-- what stands before each `)`, and what stands behind the last
abbrev pub groups_of : List ℕ → List (List ℕ)
groups_of text = front_of (parts (is_byte 41) text)

abbrev pub behind_of : List ℕ → List ℕ
behind_of text = last_of (parts (is_byte 41) text)

-- what stands behind a `(`, before which there is whitespace alone
abbrev pub inner_of : List ℕ → Option (List ℕ)
inner_of [] = None
inner_of (b ∷ bs) = if is_space b then inner_of bs else (if nat_eq b 40 then Some bs else None)

-- a test that is asked as spelling
abbrev pub spelt_meets : Bool → Condition → Bool
spelt_meets test Spelling = test
spelt_meets test k = true

abbrev pub is_blank : List ℕ → Bool
is_blank text = nat_eq (length (words_of text)) 0

-- what a list of groups meets, where it is told what each group does and what it stands for: no more of that than is left,
-- and behind the last group there is whitespace alone
abbrev pub groups_meet : {A : Type 0} → (List ℕ → Condition → Bool) → (List ℕ → List A) → List ℕ → ℕ → Condition → Bool
groups_meet test members text left k =
    (all_meet test (groups_of text) k && count_meets (length (flat_map members (groups_of text))) left k) && spelt_meets (is_blank (behind_of text)) k

-- so many more keep the limit, where there are so many
abbrev pub is_room_for : ℕ → ℕ → ℕ → Bool
is_room_for left count more = nat_le more (left - count)
