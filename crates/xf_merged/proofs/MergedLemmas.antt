-- Ascending ranges that do not touch are told by their members.
use Rattle.std.proofs.Common.{◌≡◌, refl, sym, ap, Bool, true, false, if◌then◌else◌, List, [], ◌∷◌, ℤ, pos, ◌+ℤ◌, ◌≤ℤ◌, ◌<ℤ◌, ◌⊎◌, inl, inr, ◌↔◌, Some, arith}
use Rattle.std.specs.Prelude.{int_le, int_lt}
use Rattle.std.proofs.lemmas.Int.{ints, clamps, by_lt_z}
use Rattle.xf_num.specs.Span.{Bounds, IsWithin, join_ends}
use Rattle.xf_num.specs.Domain.{IsMember, Ascends, IsDomain}
use Rattle.xf_merged.specs.Merged.{inserted, with_range, merged, domain_of}

-- ascending ranges, or none
abbrev pub Ranges : List Bounds → Type 0
Ranges [] = Unit {0}
Ranges (b ∷ bs) = Ascends b bs

-- the first range begins past a and the integer after it
abbrev Begins : ℤ → List Bounds → Type 0
Begins a [] = Unit {0}
Begins a (b ∷ bs) = (a +ℤ pos 1) <ℤ b.lo

valid : (b : Bounds) (bs : List Bounds) → Ascends b bs → b.lo ≤ℤ b.hi
valid b [] h = h
valid b (c ∷ cs) h = h.0

rest : (b : Bounds) (bs : List Bounds) → Ascends b bs → Ranges bs
rest b [] h = tt
rest b (c ∷ cs) h = h.2

begins : (b : Bounds) (bs : List Bounds) → Ascends b bs → Begins b.hi bs
begins b [] h = tt
begins b (c ∷ cs) h = h.1

whole : (b : Bounds) (bs : List Bounds) → b.lo ≤ℤ b.hi → Begins b.hi bs → Ranges bs → Ascends b bs
whole b [] h g r = h
whole b (c ∷ cs) h g r = (h, g, r)

-- what later ranges hold is past the first and the integer after it
past : (b : Bounds) (bs : List Bounds) (v : ℤ) → Ascends b bs → IsMember bs v → (b.hi +ℤ pos 1) <ℤ v
past b [] v h m = absurd m
past b (c ∷ cs) v h (inl w) = omega (arith, ints, h.1, w.from)
past b (c ∷ cs) v h (inr w) = omega (arith, ints, h.1, valid c cs h.2, past c cs v h.2 w)

first_in : (b : Bounds) (bs : List Bounds) → Ascends b bs → IsMember (b ∷ bs) b.lo
first_in b bs h = inl (record { from = omega (arith, ints); to = valid b bs h })

low_le : (b : Bounds) (bs : List Bounds) (v : ℤ) → Ascends b bs → IsMember (b ∷ bs) v → b.lo ≤ℤ v
low_le b bs v h (inl w) = w.from
low_le b bs v h (inr w) = omega (arith, ints, valid b bs h, past b bs v h w)

-- an integer within a hole is no member
no_hole : (c : Bounds) (cs : List Bounds) → Ascends c cs → IsMember (c ∷ cs) (c.hi +ℤ pos 1) → ⊥
no_hole c cs h (inl w) = let t : (c.hi +ℤ pos 1) ≤ℤ c.hi = w.to in omega (arith, ints, t)
no_hole c cs h (inr w) = let t = past c cs (c.hi +ℤ pos 1) h w in omega (arith, ints, t)

high_le : (b : Bounds) (bs : List Bounds) (c : Bounds) (cs : List Bounds) → b.lo ≡ c.lo → Ascends b bs → Ascends c cs → ((v : ℤ) → IsMember (b ∷ bs) v → IsMember (c ∷ cs) v) → b.hi ≤ℤ c.hi
high_le b bs c cs e h k f =
    by_lt_z c.hi b.hi
    (λ lt. absurd (no_hole c cs k (f (c.hi +ℤ pos 1) (inl (record { from = let low : c.lo ≤ℤ c.hi = valid c cs k in omega (arith, ints, low, e); to = omega (arith, ints, lt) })))))
    (λ le. le)

bounds_same : (b c : Bounds) → b.lo ≡ c.lo → b.hi ≡ c.hi → b ≡ c
bounds_same b c e f = rw (e, f) refl

later : (b : Bounds) (bs : List Bounds) (c : Bounds) (cs : List Bounds) (v : ℤ) → b.hi ≡ c.hi → Ascends b bs → IsMember bs v → IsMember (c ∷ cs) v → IsMember cs v
later b bs c cs v e h m (inl w) = let p = past b bs v h m in let t : v ≤ℤ c.hi = w.to in let bad : ⊥ = omega (arith, ints, p, t, e) in absurd bad
later b bs c cs v e h m (inr w) = w

joined : {b c : Bounds} {xs ys : List Bounds} → b ≡ c → xs ≡ ys → b ∷ xs ≡ c ∷ ys
joined e f = rw (e, f) refl

pub one_list : (xs ys : List Bounds) → Ranges xs → Ranges ys → ((v : ℤ) → IsMember xs v → IsMember ys v) → ((v : ℤ) → IsMember ys v → IsMember xs v) → xs ≡ ys
one_list [] [] h k f g = refl
one_list [] (c ∷ cs) h k f g = absurd (g c.lo (first_in c cs k))
one_list (b ∷ bs) [] h k f g = absurd (f b.lo (first_in b bs h))
one_list (b ∷ bs) (c ∷ cs) h k f g =
    let up : c.lo ≤ℤ b.lo = low_le c cs b.lo k (f b.lo (first_in b bs h)) in
    let down : b.lo ≤ℤ c.lo = low_le b bs c.lo h (g c.lo (first_in c cs k)) in
    let lows : b.lo ≡ c.lo = omega (arith, ints, up, down) in
    let above : b.hi ≤ℤ c.hi = high_le b bs c cs lows h k f in
    let below : c.hi ≤ℤ b.hi = high_le c cs b bs (sym lows) k h g in
    let highs : b.hi ≡ c.hi = omega (arith, ints, above, below) in
    joined (bounds_same b c lows highs) (one_list bs cs (rest b bs h) (rest c cs k) (λ v m. later b bs c cs v highs h m (f v (inr m))) (λ v m. later c cs b bs v (sym highs) k m (g v (inr m))))

at_test : (P : List Bounds → Type 0) (t : Bool) (x y : List Bounds) → (t ≡ true → P x) → (t ≡ false → P y) → P (if t then x else y)
at_test P true x y f g = f refl
at_test P false x y f g = g refl

-- the three ways in which a range meets the next
ways : (P : List Bounds → Type 0) (b c : Bounds) (cs : List Bounds) → ((b.hi +ℤ pos 1) <ℤ c.lo → P (b ∷ (c ∷ cs))) → ((c.hi +ℤ pos 1) <ℤ b.lo → P (c ∷ inserted b cs))
    → (c.lo ≤ℤ (b.hi +ℤ pos 1) → b.lo ≤ℤ (c.hi +ℤ pos 1) → P (inserted (join_ends b c) cs)) → P (inserted b (c ∷ cs))
ways P b c cs f g h =
    at_test P (int_lt (b.hi +ℤ pos 1) c.lo) _ _ (λ e. f (omega (arith, ints, e)))
    (λ e. at_test P (int_lt (c.hi +ℤ pos 1) b.lo) _ _ (λ d. g (omega (arith, ints, d))) (λ d. h (omega (arith, ints, e)) (omega (arith, ints, d))))

split : (b c : Bounds) (v : ℤ) → c.lo ≤ℤ (b.hi +ℤ pos 1) → b.lo ≤ℤ (c.hi +ℤ pos 1) → IsWithin (join_ends b c) v → IsWithin b v ⊎ IsWithin c v
split b c v e d w =
    by_lt_z b.hi v
    (λ up. inr (record { from = omega (arith, ints, e, up); to = omega (arith, ints, clamps, w.to, up) }))
    (λ to. by_lt_z v b.lo
    (λ down. inr (record { from = omega (arith, ints, clamps, w.from, down); to = omega (arith, ints, d, down) }))
    (λ from. inl (record { from = from; to = to })))

join_left : (b c : Bounds) (v : ℤ) → IsWithin b v → IsWithin (join_ends b c) v
join_left b c v h = record { from = omega (arith, ints, clamps, h.from); to = omega (arith, ints, clamps, h.to) }

join_right : (b c : Bounds) (v : ℤ) → IsWithin c v → IsWithin (join_ends b c) v
join_right b c v h = record { from = omega (arith, ints, clamps, h.from); to = omega (arith, ints, clamps, h.to) }

inserted_from : (b : Bounds) (cs : List Bounds) (v : ℤ) → IsMember (inserted b cs) v → IsWithin b v ⊎ IsMember cs v
inserted_from b [] v = λ m. m
inserted_from b (c ∷ cs) v =
    ways (λ xs. IsMember xs v → IsWithin b v ⊎ IsMember (c ∷ cs) v) b c cs
    (λ e m. m)
    (λ e m. elim m [ inl w ↦ inr (inl w) | inr w ↦ elim (inserted_from b cs v w) [ inl u ↦ inl u | inr u ↦ inr (inr u) ] ])
    (λ e d m. elim (inserted_from (join_ends b c) cs v m) [ inl w ↦ elim (split b c v e d w) [ inl u ↦ inl u | inr u ↦ inr (inl u) ] | inr w ↦ inr (inr w) ])

inserted_to : (b : Bounds) (cs : List Bounds) (v : ℤ) → IsWithin b v ⊎ IsMember cs v → IsMember (inserted b cs) v
inserted_to b [] v = λ m. m
inserted_to b (c ∷ cs) v =
    ways (λ xs. IsWithin b v ⊎ IsMember (c ∷ cs) v → IsMember xs v) b c cs
    (λ e m. m)
    (λ e m. elim m [ inl w ↦ inr (inserted_to b cs v (inl w)) | inr w ↦ elim w [ inl u ↦ inl u | inr u ↦ inr (inserted_to b cs v (inr u)) ] ])
    (λ e d m. elim m [ inl w ↦ inserted_to (join_ends b c) cs v (inl (join_left b c v w)) | inr w ↦ elim w [ inl u ↦ inserted_to (join_ends b c) cs v (inl (join_right b c v u)) | inr u ↦ inserted_to (join_ends b c) cs v (inr u) ] ])

further : (a : ℤ) (c : Bounds) (cs : List Bounds) → (a +ℤ pos 1) <ℤ c.lo → Ascends c cs → Begins a cs
further a c [] g h = tt
further a c (d ∷ ds) g h = omega (arith, ints, g, h.0, h.1)

inserted_begins : (a : ℤ) (b : Bounds) (cs : List Bounds) → (a +ℤ pos 1) <ℤ b.lo → Begins a cs → Ranges cs → Begins a (inserted b cs)
inserted_begins a b [] h g k = h
inserted_begins a b (c ∷ cs) h g k =
    ways (Begins a) b c cs (λ e. h) (λ e. g)
    (λ e d. inserted_begins a (join_ends b c) cs (omega (arith, ints, clamps, h, g)) (further a c cs g k) (rest c cs k))

inserted_ranges : (b : Bounds) (cs : List Bounds) → b.lo ≤ℤ b.hi → Ranges cs → Ranges (inserted b cs)
inserted_ranges b [] h k = h
inserted_ranges b (c ∷ cs) h k =
    ways Ranges b c cs
    (λ e. whole b (c ∷ cs) h e k)
    (λ e. whole c (inserted b cs) (valid c cs k) (inserted_begins c.hi b cs e (begins c cs k) (rest c cs k)) (inserted_ranges b cs h (rest c cs k)))
    (λ e d. inserted_ranges (join_ends b c) cs (omega (arith, ints, clamps, h)) (rest c cs k))

pub merged_ranges : (bs : List Bounds) → Ranges (merged bs)
merged_ranges [] = tt
merged_ranges (b ∷ bs) = by (int_le b.lo b.hi) refl (merged_ranges bs)
  where
    by : (t : Bool) → int_le b.lo b.hi ≡ t → Ranges (merged bs) → Ranges (with_range t b (merged bs))
    by true e k = inserted_ranges b (merged bs) (omega (arith, ints, e)) k
    by false e k = k

merged_from : (bs : List Bounds) (v : ℤ) → IsMember (merged bs) v → IsMember bs v
merged_from [] v m = m
merged_from (b ∷ bs) v m = by (int_le b.lo b.hi) m (merged_from bs v)
  where
    by : (t : Bool) → IsMember (with_range t b (merged bs)) v → (IsMember (merged bs) v → IsMember bs v) → IsMember (b ∷ bs) v
    by true m more = elim (inserted_from b (merged bs) v m) [ inl w ↦ inl w | inr w ↦ inr (more w) ]
    by false m more = inr (more m)

merged_to : (bs : List Bounds) (v : ℤ) → IsMember bs v → IsMember (merged bs) v
merged_to [] v m = m
merged_to (b ∷ bs) v m = by (int_le b.lo b.hi) refl m (merged_to bs v)
  where
    none : int_le b.lo b.hi ≡ false → IsWithin b v → ⊥
    none e w = omega (arith, ints, e, w.from, w.to)

    by : (t : Bool) → int_le b.lo b.hi ≡ t → IsMember (b ∷ bs) v → (IsMember bs v → IsMember (merged bs) v) → IsMember (with_range t b (merged bs)) v
    by true e (inl w) more = inserted_to b (merged bs) v (inl w)
    by true e (inr w) more = inserted_to b (merged bs) v (inr (more w))
    by false e (inl w) more = absurd (none e w)
    by false e (inr w) more = more w

-- a domain of the members of ranges is their domain
pub domain_is : (d bs : List Bounds) → IsDomain d → ((v : ℤ) → IsMember d v ↔ IsMember bs v) → Some d ≡ domain_of bs
domain_is [] bs h f = absurd h
domain_is (x ∷ xs) [] h f = absurd ((f x.lo).0 (first_in x xs h))
domain_is (x ∷ xs) (b ∷ bs) h f =
    ap (λ d. Some d) (one_list (x ∷ xs) (merged (b ∷ bs)) h (merged_ranges (b ∷ bs)) (λ v m. merged_to (b ∷ bs) v ((f v).0 m)) (λ v m. (f v).1 (merged_from (b ∷ bs) v m)))
