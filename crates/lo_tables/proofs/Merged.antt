-- What merged ranges keep of those that they come from: the members, and that they are ranges of small integers; and they
-- are no more.
use Rattle.std.proofs.Common.{◌≡◌, ◌↔◌, ◌⊎◌, inl, inr, refl, ℕ, suc, ◌+◌, ◌≤◌, Bool, true, false, if◌then◌else◌, List, [], ◌∷◌, length, ℤ, pos, ◌+ℤ◌, ◌≤ℤ◌, ◌<ℤ◌, arith}
use Rattle.std.specs.Prelude.{int_le, int_lt}
use Rattle.std.specs.List.{AllByRecursion}
use Rattle.std.proofs.lemmas.Int.{ints, clamps, by_lt_z}
use Rattle.fz_model.specs.Sound.{IsRange}
use Rattle.xf_merged.specs.Merged.{inserted, with_range, merged}
use Rattle.xf_num.specs.Domain.{IsMember}
use Rattle.xf_num.specs.Span.{Bounds, IsWithin, join_ends}

at_test : (P : List Bounds → Type 0) (t : Bool) (x y : List Bounds) → (t ≡ true → P x) → (t ≡ false → P y) → P (if t then x else y)
at_test P true x y f g = f refl
at_test P false x y f g = g refl

-- the three ways in which a range meets the next
ways : (P : List Bounds → Type 0) (b c : Bounds) (cs : List Bounds) → ((b.hi +ℤ pos 1) <ℤ c.lo → P (b ∷ (c ∷ cs))) → ((c.hi +ℤ pos 1) <ℤ b.lo → P (c ∷ inserted b cs))
    → (c.lo ≤ℤ (b.hi +ℤ pos 1) → b.lo ≤ℤ (c.hi +ℤ pos 1) → P (inserted (join_ends b c) cs)) → P (inserted b (c ∷ cs))
ways P b c cs f g h =
    at_test P (int_lt (b.hi +ℤ pos 1) c.lo) _ _ (λ e. f (omega (arith, ints, e)))
    (λ e. at_test P (int_lt (c.hi +ℤ pos 1) b.lo) _ _ (λ d. g (omega (arith, ints, d))) (λ d. h (omega (arith, ints, e)) (omega (arith, ints, d))))

split : (b c : Bounds) (v : ℤ) → c.lo ≤ℤ (b.hi +ℤ pos 1) → b.lo ≤ℤ (c.hi +ℤ pos 1) → IsWithin (join_ends b c) v → IsWithin b v ⊎ IsWithin c v
split b c v e d w =
    by_lt_z b.hi v
    (λ up. inr (record { from = omega (arith, ints, e, up); to = omega (arith, ints, clamps, w.to, up) }))
    (λ to. by_lt_z v b.lo
    (λ down. inr (record { from = omega (arith, ints, clamps, w.from, down); to = omega (arith, ints, d, down) }))
    (λ from. inl (record { from = from; to = to })))

join_left : (b c : Bounds) (v : ℤ) → IsWithin b v → IsWithin (join_ends b c) v
join_left b c v h = record { from = omega (arith, ints, clamps, h.from); to = omega (arith, ints, clamps, h.to) }

join_right : (b c : Bounds) (v : ℤ) → IsWithin c v → IsWithin (join_ends b c) v
join_right b c v h = record { from = omega (arith, ints, clamps, h.from); to = omega (arith, ints, clamps, h.to) }

inserted_from : (b : Bounds) (cs : List Bounds) (v : ℤ) → IsMember (inserted b cs) v → IsWithin b v ⊎ IsMember cs v
inserted_from b [] v = λ m. m
inserted_from b (c ∷ cs) v =
    ways (λ xs. IsMember xs v → IsWithin b v ⊎ IsMember (c ∷ cs) v) b c cs
    (λ e m. m)
    (λ e m. elim m [ inl w ↦ inr (inl w) | inr w ↦ elim (inserted_from b cs v w) [ inl u ↦ inl u | inr u ↦ inr (inr u) ] ])
    (λ e d m. elim (inserted_from (join_ends b c) cs v m) [ inl w ↦ elim (split b c v e d w) [ inl u ↦ inl u | inr u ↦ inr (inl u) ] | inr w ↦ inr (inr w) ])

inserted_to : (b : Bounds) (cs : List Bounds) (v : ℤ) → IsWithin b v ⊎ IsMember cs v → IsMember (inserted b cs) v
inserted_to b [] v = λ m. m
inserted_to b (c ∷ cs) v =
    ways (λ xs. IsWithin b v ⊎ IsMember (c ∷ cs) v → IsMember xs v) b c cs
    (λ e m. m)
    (λ e m. elim m [ inl w ↦ inr (inserted_to b cs v (inl w)) | inr w ↦ elim w [ inl u ↦ inl u | inr u ↦ inr (inserted_to b cs v (inr u)) ] ])
    (λ e d m. elim m [ inl w ↦ inserted_to (join_ends b c) cs v (inl (join_left b c v w)) | inr w ↦ elim w [ inl u ↦ inserted_to (join_ends b c) cs v (inl (join_right b c v u)) | inr u ↦ inserted_to (join_ends b c) cs v (inr u) ] ])

merged_from : (bs : List Bounds) (v : ℤ) → IsMember (merged bs) v → IsMember bs v
merged_from [] v m = m
merged_from (b ∷ bs) v m = by (int_le b.lo b.hi) m (merged_from bs v)
  where
    by : (t : Bool) → IsMember (with_range t b (merged bs)) v → (IsMember (merged bs) v → IsMember bs v) → IsMember (b ∷ bs) v
    by true m more = elim (inserted_from b (merged bs) v m) [ inl w ↦ inl w | inr w ↦ inr (more w) ]
    by false m more = inr (more m)

merged_to : (bs : List Bounds) (v : ℤ) → IsMember bs v → IsMember (merged bs) v
merged_to [] v m = m
merged_to (b ∷ bs) v m = by (int_le b.lo b.hi) refl m (merged_to bs v)
  where
    none : int_le b.lo b.hi ≡ false → IsWithin b v → ⊥
    none e w = omega (arith, ints, e, w.from, w.to)

    by : (t : Bool) → int_le b.lo b.hi ≡ t → IsMember (b ∷ bs) v → (IsMember bs v → IsMember (merged bs) v) → IsMember (with_range t b (merged bs)) v
    by true e (inl w) more = inserted_to b (merged bs) v (inl w)
    by true e (inr w) more = inserted_to b (merged bs) v (inr (more w))
    by false e (inl w) more = absurd (none e w)
    by false e (inr w) more = more w

pub merged_members : (bs : List Bounds) (v : ℤ) → IsMember (merged bs) v ↔ IsMember bs v
merged_members bs v = (merged_from bs v, merged_to bs v)

-- as many at most

inserted_few : (b : Bounds) (cs : List Bounds) → length (inserted b cs) ≤ suc (length cs)
inserted_few b [] = omega arith
inserted_few b (c ∷ cs) =
    ways (λ xs. length xs ≤ suc (suc (length cs))) b c cs (λ e. omega arith) (λ e. let rest = inserted_few b cs in omega (arith, rest)) (λ e d. let rest = inserted_few (join_ends b c) cs in omega (arith, rest))

pub merged_few : (bs : List Bounds) → length (merged bs) ≤ length bs
merged_few [] = omega arith
merged_few (b ∷ bs) = by (int_le b.lo b.hi) (merged_few bs)
  where
    by : (t : Bool) → length (merged bs) ≤ length bs → length (with_range t b (merged bs)) ≤ suc (length bs)
    by true h = let one = inserted_few b (merged bs) in omega (arith, one, h)
    by false h = omega (arith, h)

-- ranges of small integers stay so

range_join : (b c : Bounds) → IsRange b → IsRange c → IsRange (join_ends b c)
range_join b c h k = record {
  ordered = omega (arith, ints, clamps, h.ordered, k.ordered);
  small = record { from = omega (arith, ints, clamps, h.small.from, k.small.from); to = omega (arith, ints, clamps, h.small.to, k.small.to) };
}

inserted_ranges : (b : Bounds) (cs : List Bounds) → IsRange b → AllByRecursion IsRange cs → AllByRecursion IsRange (inserted b cs)
inserted_ranges b [] h k = (h, tt)
inserted_ranges b (c ∷ cs) h k =
    ways (AllByRecursion IsRange) b c cs (λ e. (h, k)) (λ e. (k.0, inserted_ranges b cs h k.1)) (λ e d. inserted_ranges (join_ends b c) cs (range_join b c h k.0) k.1)

pub merged_ranges : (bs : List Bounds) → AllByRecursion IsRange bs → AllByRecursion IsRange (merged bs)
merged_ranges [] h = tt
merged_ranges (b ∷ bs) h = by (int_le b.lo b.hi) (merged_ranges bs h.1)
  where
    by : (t : Bool) → AllByRecursion IsRange (merged bs) → AllByRecursion IsRange (with_range t b (merged bs))
    by true k = inserted_ranges b (merged bs) h.0 k
    by false k = k
