-- The domain of integers and ranges, which may come in any order, touch and overlap (XCSP3-core, "Variables";
-- MiniZinc Handbook, "FlatZinc", types).
use Rattle.std.specs.Prelude.{pos, ◌+ℤ◌, Bool, true, false, int_le, int_lt, List, [], ◌∷◌, Option, None, Some, if◌then◌else◌}
use Rattle.xf_num.specs.Span.{Bounds, join_ends}

-- ascending ranges, no two of which touch, with the integers of one more
abbrev pub inserted : Bounds → List Bounds → List Bounds
inserted b [] = b ∷ []
inserted b (c ∷ cs) =
    if int_lt (b.hi +ℤ pos 1) c.lo then b ∷ (c ∷ cs)
    else if int_lt (c.hi +ℤ pos 1) b.lo then c ∷ inserted b cs
    else inserted (join_ends b c) cs

-- a range from a greater to a less integer has none
abbrev pub with_range : Bool → Bounds → List Bounds → List Bounds
with_range true b ds = inserted b ds
with_range false b ds = ds

-- the ascending ranges, no two of which touch, with the integers of all these
abbrev pub merged : List Bounds → List Bounds
merged [] = []
merged (b ∷ bs) = with_range (int_le b.lo b.hi) b (merged bs)

-- the domain of these ranges, where there is one
abbrev pub domain_of : List Bounds → Option (List Bounds)
domain_of [] = None
domain_of (b ∷ bs) = Some (merged (b ∷ bs))
