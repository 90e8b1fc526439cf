-- Domains that are read are sound.
use Rattle.std.proofs.Common.{◌≡◌, ℕ, ℤ, pos, ◌+ℤ◌, Bool, true, false, if◌then◌else◌, List, [], ◌∷◌, map, Option, None, Some, refl, arith}
use Rattle.std.specs.Prelude.{int_le, int_lt}
use Rattle.std.specs.List.{AllByRecursion}
use Rattle.std.proofs.lemmas.Int.{ints, clamps}
use Rattle.xf_num.specs.Span.{Bounds, join_ends}
use Rattle.xf_num.specs.Domain.{IsDomain}
use Rattle.xf_merged.specs.Merged.{inserted, with_range, merged}
use Rattle.xf_merged.proofs.MergedLemmas.{Ranges, merged_ranges}
use Rattle.fz_model.specs.Limits.{IsSmall, exactly}
use Rattle.fz_model.specs.Sound.{HasOwnDomain}
use Rattle.fz_grammar.specs.declared.tree.VarType.{VarType}
use Rattle.fz_grammar.specs.declared.tree.VarType.TheVariants as var_type
use Rattle.fz_values.specs.Integers.{int_of}
use Rattle.fz_items.specs.Items.{is_bool, bound_domain, set_domain, domain_of, span, IsBound}
use Rattle.fz_sound.proofs.SoundValues.{int_small, zero_small}

abbrev IsSome : List Bounds → Type 0
IsSome [] = ⊥
IsSome (b ∷ bs) = Unit {0}

abbrev AreSmall : List Bounds → Type 0
AreSmall bs = AllByRecursion IsSmall bs

at_test : (P : List Bounds → Type 0) (t : Bool) (x y : List Bounds) → P x → P y → P (if t then x else y)
at_test P true x y f g = f
at_test P false x y f g = g

inserted_some : (b : Bounds) (cs : List Bounds) → IsSome (inserted b cs)
inserted_some b [] = tt
inserted_some b (c ∷ cs) =
    at_test IsSome (int_lt (b.hi +ℤ pos 1) c.lo) (b ∷ (c ∷ cs)) (if int_lt (c.hi +ℤ pos 1) b.lo then c ∷ inserted b cs else inserted (join_ends b c) cs) tt
    (at_test IsSome (int_lt (c.hi +ℤ pos 1) b.lo) (c ∷ inserted b cs) (inserted (join_ends b c) cs) tt (inserted_some (join_ends b c) cs))

joined_small : (b c : Bounds) → IsSmall b → IsSmall c → IsSmall (join_ends b c)
joined_small b c h g = record { from = omega (arith, ints, clamps, h.from, g.from); to = omega (arith, ints, clamps, h.to, g.to) }

inserted_small : (b : Bounds) (cs : List Bounds) → IsSmall b → AreSmall cs → AreSmall (inserted b cs)
inserted_small b [] h g = (h, tt)
inserted_small b (c ∷ cs) h g =
    at_test AreSmall (int_lt (b.hi +ℤ pos 1) c.lo) (b ∷ (c ∷ cs)) (if int_lt (c.hi +ℤ pos 1) b.lo then c ∷ inserted b cs else inserted (join_ends b c) cs) (h, g)
    (at_test AreSmall (int_lt (c.hi +ℤ pos 1) b.lo) (c ∷ inserted b cs) (inserted (join_ends b c) cs) (g.0, inserted_small b cs h g.1) (inserted_small (join_ends b c) cs (joined_small b c h g.0) g.1))

with_small : (t : Bool) (b : Bounds) (ds : List Bounds) → IsSmall b → AreSmall ds → AreSmall (with_range t b ds)
with_small true b ds h g = inserted_small b ds h g
with_small false b ds h g = g

merged_small : (bs : List Bounds) → AreSmall bs → AreSmall (merged bs)
merged_small [] h = tt
merged_small (b ∷ bs) h = with_small (int_le b.lo b.hi) b (merged bs) h.0 (merged_small bs h.1)

with_some : (t : Bool) (b : Bounds) (ds : List Bounds) → t ≡ true → IsSome (with_range t b ds)
with_some true b ds e = inserted_some b ds
with_some false b ds e = cc

is_domain : (ds : List Bounds) → IsSome ds → Ranges ds → IsDomain ds
is_domain [] h g = absurd h
is_domain (d ∷ ds) h g = g

itself : (z : ℤ) → int_le z z ≡ true
itself z = by (int_le z z) refl
  where
    by : (t : Bool) → int_le z z ≡ t → t ≡ true
    by true e = refl
    by false e = absurd (omega (arith, ints, e))

exact_small : (zs : List ℤ) → AllByRecursion (λ z. IsSmall (exactly z)) zs → AreSmall (map exactly zs)
exact_small [] h = tt
exact_small (z ∷ zs) h = (h.0, exact_small zs h.1)

small_ints : (ns : List (List ℕ)) → AllByRecursion (λ z. IsSmall (exactly z)) (map int_of ns)
small_ints [] = tt
small_ints (n ∷ ns) = (int_small n, small_ints ns)

set_sound : (zs : List ℤ) → AllByRecursion (λ z. IsSmall (exactly z)) zs → IsDomain (set_domain zs) × AreSmall (set_domain zs)
set_sound [] h = (omega (arith, ints), (zero_small, tt))
set_sound (z ∷ zs) h = (
  is_domain (merged (map exactly (z ∷ zs))) (with_some (int_le z z) (exactly z) (merged (map exactly zs)) (itself z)) (merged_ranges (map exactly (z ∷ zs))),
  merged_small (map exactly (z ∷ zs)) (exact_small (z ∷ zs) h),
)

range_sound : (t : Bool) (a b : ℤ) → int_le a b ≡ t → IsSmall (exactly a) → IsSmall (exactly b)
    → IsDomain (if t then span a b ∷ [] else exactly a ∷ []) × AreSmall (if t then span a b ∷ [] else exactly a ∷ [])
range_sound true a b e h g = (omega (arith, ints, e), (record { from = h.from; to = g.to }, tt))
range_sound false a b e h g = (omega (arith, ints), (h, tt))

bound_sound : (bound : Option ℤ) → IsBound bound → IsDomain (bound_domain bound) × AreSmall (bound_domain bound)
bound_sound None h = (omega (arith, ints), (zero_small, tt))
bound_sound (Some n) h = (omega (arith, ints, h.0), (record { from = omega (arith, ints, h.1); to = h.1 }, tt))

pub domain_sound : (bound : Option ℤ) (t : VarType) → IsBound bound → HasOwnDomain (is_bool t) (domain_of bound t)
domain_sound bound var_type.Bool h = refl
domain_sound bound var_type.Int h = bound_sound bound h
domain_sound bound (var_type.Range a b) h = range_sound (int_le (int_of a) (int_of b)) (int_of a) (int_of b) refl (int_small a) (int_small b)
domain_sound bound (var_type.Set ns) h = set_sound (map int_of ns) (small_ints ns)
