-- The test that boxes do not overlap (XCSP3-core, "Constraint noOverlap"), pair by pair.
use Rattle.std.specs.Prelude.{ℕ, ℤ, pos, ◌+ℤ◌, int_le, List, [], ◌∷◌, map, Bool, true, false, ◌&&◌, ◌||◌}
use Rattle.std.specs.List.{AllByRecursion, list_all}
use Rattle.xs_boxes.specs.declared.holds.Side.{Side}
use Rattle.xs_model.specs.declared.term.Term.{Term}
use Rattle.xs_model.specs.Fields.{item_of}
use Rattle.xs_model.specs.Formed.{IsFormedItem}
use Rattle.xs_model.specs.Lists.{is_among}
use Rattle.xs_model.specs.Schedule.{Box}

-- terms with small integers, and variables below n
abbrev pub AreTerms : ℕ → List Term → Type 0
AreTerms n ts = AllByRecursion (IsFormedItem n) (map item_of ts)

-- the sides of a box, dimension by dimension
abbrev pub sides : List ℤ → List ℤ → List Side
sides [] ls = []
sides (o ∷ os) [] = []
sides (o ∷ os) (l ∷ ls) = record { origin = o; length = l } ∷ sides os ls

-- one's origin plus length is at most the other's origin
abbrev pub ends_before : Side → Side → Bool
ends_before s t = int_le (s.origin +ℤ s.length) t.origin

-- so it is in some dimension, one way or the other
abbrev pub are_apart : List Side → List Side → Bool
are_apart [] ts = false
are_apart (s ∷ ss) [] = false
are_apart (s ∷ ss) (t ∷ ts) = (ends_before s t || ends_before t s) || are_apart ss ts

-- where zeros are ignored, a box with a length of 0 is passed over
abbrev pub is_passed : Bool → List ℤ → Bool
is_passed zero_ignored ls = zero_ignored && is_among ls (pos 0)

-- a box is passed over, or apart from another
abbrev pub is_clear_of : Bool → Box → Box → Bool
is_clear_of zero_ignored b c = is_passed zero_ignored c.lengths || are_apart (sides b.origin b.lengths) (sides c.origin c.lengths)

abbrev pub is_clear : Bool → Box → List Box → Bool
is_clear zero_ignored b cs = is_passed zero_ignored b.lengths || list_all (is_clear_of zero_ignored b) cs

-- each box is clear of those behind it
abbrev pub are_clear : Bool → List Box → Bool
are_clear zero_ignored [] = true
are_clear zero_ignored (b ∷ bs) = is_clear zero_ignored b bs && are_clear zero_ignored bs
