-- The texts of a template (XCSP3, "Groups": `%i` stands for the argument at place i, and `%...` for all arguments behind
-- those that have a place).
use Rattle.std.specs.Prelude.{◌≡◌, ◌≤◌, nat_le, ℕ, zero, suc, ◌+◌, ◌-◌, ◌*◌, Bool, true, false, nat_eq, min, max, List, [], ◌∷◌, ◌++◌, length, drop, slice_index_or, Option, None, Some, if◌then◌else◌, ◌==◌, codes}
use Rattle.std.specs.Char.{is_ascii_digit}
use Rattle.std.specs.List.{flat_map, list_any, starts_with, take_while}
use Rattle.xs_template.specs.declared.cutting.Gap.{Gap}
use Rattle.xs_template.specs.declared.cutting.Gap.TheVariants.{Place, Rest}
use Rattle.xs_template.specs.declared.cutting.Spot.{Spot}
use Rattle.xs_template.specs.declared.cutting.Spot.TheVariants.{Plain, Open}
use Rattle.xf_num.specs.Limits as limits

-- the most words of all `args`, and members of the lists of all slides
abbrev pub most_words : ℕ
most_words = limits.most_items

-- the number that digits write behind those of n
abbrev pub number_after : ℕ → List ℕ → ℕ
number_after n [] = n
number_after n (d ∷ ds) = number_after (n * 10 + (d - 48)) ds

-- a place as it is written
abbrev pub as_written : ℕ → ℕ
as_written n = n

-- a place as it is told: no `args` that is read has a word at `most_words` or behind, so all these places are one
abbrev pub within_words : ℕ → ℕ
within_words n = min n most_words

-- the place that digits name, by how places are told
abbrev pub place_number : (ℕ → ℕ) → List ℕ → ℕ
place_number told ds = told (number_after 0 ds)

abbrev pub numbered : (ℕ → ℕ) → List ℕ → Option (Gap × ℕ)
numbered told [] = None
numbered told (d ∷ ds) = Some (Place (place_number told (d ∷ ds)), length (d ∷ ds) + 1)

-- what stands behind a `%`: `...`, or the longest run of digits
abbrev pub gap_behind : (ℕ → ℕ) → List ℕ → Option (Gap × ℕ)
gap_behind told bytes = if starts_with nat_eq bytes (codes "...") then Some (Rest, 4) else numbered told (take_while is_ascii_digit bytes)

-- the gap that begins with this byte, before those bytes, and how many bytes spell it
abbrev pub gap_at : (ℕ → ℕ) → ℕ → List ℕ → Option (Gap × ℕ)
gap_at told b bytes = if b == 37 then gap_behind told bytes else None

-- a byte that stays as it is, before what stands behind it
abbrev pub onto_plain : ℕ → List Spot → List Spot
onto_plain b [] = Plain (b ∷ []) ∷ []
onto_plain b (Plain bytes ∷ spots) = Plain (b ∷ bytes) ∷ spots
onto_plain b (Open gap ∷ spots) = Plain (b ∷ []) ∷ Open gap ∷ spots

abbrev pub put : ℕ → Option (Gap × ℕ) → (ℕ → List Spot) → List Spot
put b None behind = onto_plain b (behind 0)
put b (Some gap) behind = Open gap.0 ∷ behind (gap.1 - 1)

-- the spots of a text, behind so many bytes that a gap before them is spelt with
abbrev pub spots_past : (ℕ → ℕ) → List ℕ → ℕ → List Spot
spots_past told [] skip = []
spots_past told (b ∷ bs) zero = put b (gap_at told b bs) (spots_past told bs)
spots_past told (b ∷ bs) (suc skip) = spots_past told bs skip

-- the spots of a text: its gaps, and the bytes between them. A `%` that begins no gap is a byte as any other
abbrev pub spots_of : (ℕ → ℕ) → List ℕ → List Spot
spots_of told text = spots_past told text 0

-- how many words a gap asks for: as many as reach its place
abbrev pub gap_asks : Gap → ℕ
gap_asks (Place i) = i + 1
gap_asks Rest = 0

abbrev pub spot_asks : Spot → ℕ
spot_asks (Plain bytes) = 0
spot_asks (Open gap) = gap_asks gap

-- how many words some spots ask for: one more than the greatest place, or none
abbrev pub asked_by : List Spot → ℕ
asked_by [] = 0
asked_by (s ∷ ss) = max (spot_asks s) (asked_by ss)

-- a word behind a space
abbrev pub with_space : List ℕ → List ℕ
with_space w = 32 ∷ w

abbrev pub is_rest : Spot → Bool
is_rest (Plain bytes) = false
is_rest (Open (Place i)) = false
is_rest (Open Rest) = true

-- whether `%...` is among the spots
abbrev pub has_rest : List Spot → Bool
has_rest spots = list_any is_rest spots

-- words with one space between each two
abbrev pub spaced : List (List ℕ) → List ℕ
spaced [] = []
spaced (w ∷ ws) = w ++ flat_map with_space ws

-- what comes into a gap: the word at its place, or all words behind those that are asked for by place
abbrev pub gap_text : List (List ℕ) → ℕ → Gap → List ℕ
gap_text words asked (Place i) = slice_index_or words i []
gap_text words asked Rest = spaced (drop asked words)

abbrev pub spot_text : List (List ℕ) → ℕ → Spot → List ℕ
spot_text words asked (Plain bytes) = bytes
spot_text words asked (Open gap) = gap_text words asked gap

-- the text with its gaps filled, each once: what is filled in is not looked at again
abbrev pub filled : List (List ℕ) → ℕ → List Spot → List ℕ
filled words asked spots = flat_map (spot_text words asked) spots

-- how many bytes stand before the first gap
abbrev pub count_plain : Option (Gap × ℕ) → ℕ → ℕ
count_plain None more = more + 1
count_plain (Some gap) more = 0

abbrev pub plain_len : (ℕ → ℕ) → List ℕ → ℕ
plain_len told [] = 0
plain_len told (b ∷ bs) = count_plain (gap_at told b bs) (plain_len told bs)

-- the gap that a text begins with
abbrev pub front_gap : (ℕ → ℕ) → List ℕ → Option (Gap × ℕ)
front_gap told [] = None
front_gap told (b ∷ bs) = gap_at told b bs
