-- Pieces in the order of their low ends, merged where they touch.
use Rattle.std.proofs.Common.{◌≡◌, refl, sym, ◌∙◌, ap, subst, append_assoc, drop, drop-cons, suc, ℕ, ◌+◌, ◌<◌, List, [], ◌∷◌, ◌++◌, get_or, length, Bool, true, false, ℤ, pos, ◌+ℤ◌, ◌≤ℤ◌, ◌<ℤ◌, ◌↔◌, ◌⊎◌, inl, inr, if◌then◌else◌, arith}
use Rattle.std.proofs.lemmas.Int.{ints, clamps, by_lt_z}
use Rattle.std.proofs.lemmas.List.Elements.{All-cons, All-head, All-tail}
use Rattle.std.proofs.lemmas.List.Sorted.{All-permutation, IsPermutation-sym}
use Rattle.std.specs.List.{All}
use Rattle.std.specs.List.Sorted.{IsPermutation, IsSortedBy}
use Rattle.std.specs.Prelude.{int_le}
use Rattle.std.specs.Ordering.{int_cmp, is_lt}
use Rattle.xf_num.specs.Span.{Bounds, IsWithin, join_ends}
use Rattle.xf_num.specs.Domain.{IsMember, Ascends, IsDomain, LowsFollow, LowsAscend}

-- b joined with those that it meets, and the others after it
abbrev pub merge_from : Bounds → List Bounds → List Bounds
merge_from b [] = b ∷ []
merge_from b (c ∷ cs) = (if int_le c.lo (b.hi +ℤ pos 1) then merge_from (join_ends b c) cs else b ∷ merge_from c cs)

at_test : (P : List Bounds → Type 0) (t : Bool) (x y : List Bounds) → (t ≡ true → P x) → (t ≡ false → P y) → P (if t then x else y)
at_test P true x y f g = f refl
at_test P false x y f g = g refl

-- two that meet hold together what their join holds
joined : (b c : Bounds) (v : ℤ) → b.lo ≤ℤ c.lo → c.lo ≤ℤ (b.hi +ℤ pos 1) → IsWithin (join_ends b c) v → IsWithin b v ⊎ IsWithin c v
joined b c v low meets h =
    by_lt_z b.hi v
    (λ past. inr (record { from = omega (arith, ints); to = omega (arith, ints, clamps, h.to) }))
    (λ to. inl (record { from = omega (arith, ints, clamps, h.from); to = to }))

join_left : (b c : Bounds) (v : ℤ) → IsWithin b v → IsWithin (join_ends b c) v
join_left b c v h = record { from = omega (arith, ints, clamps, h.from); to = omega (arith, ints, clamps, h.to) }

join_right : (b c : Bounds) (v : ℤ) → IsWithin c v → IsWithin (join_ends b c) v
join_right b c v h = record { from = omega (arith, ints, clamps, h.from); to = omega (arith, ints, clamps, h.to) }

lows_from : (a b : ℤ) (bs : List Bounds) → a ≤ℤ b → LowsFollow b bs → LowsFollow a bs
lows_from a b [] h f = tt
lows_from a b (c ∷ cs) h f = (omega (arith, ints, h, f.0), f.1)

split_join : (b c : Bounds) (cs : List Bounds) (v : ℤ) → b.lo ≤ℤ c.lo → c.lo ≤ℤ (b.hi +ℤ pos 1) → IsMember (join_ends b c ∷ cs) v → IsMember (b ∷ (c ∷ cs)) v
split_join b c cs v low meets (inl w) = elim (joined b c v low meets w) [ inl u ↦ inl u | inr u ↦ inr (inl u) ]
split_join b c cs v low meets (inr w) = inr (inr w)

unsplit_join : (b c : Bounds) (cs : List Bounds) (v : ℤ) → IsMember (b ∷ (c ∷ cs)) v → IsMember (join_ends b c ∷ cs) v
unsplit_join b c cs v (inl w) = inl (join_left b c v w)
unsplit_join b c cs v (inr (inl w)) = inl (join_right b c v w)
unsplit_join b c cs v (inr (inr w)) = inr w

pub merge_only : (b : Bounds) (bs : List Bounds) (v : ℤ) → LowsFollow b.lo bs → IsMember (merge_from b bs) v → IsMember (b ∷ bs) v
merge_only b [] v f m = m
merge_only b (c ∷ cs) v f m =
    at_test (λ ms. IsMember ms v → IsMember (b ∷ (c ∷ cs)) v) (int_le c.lo (b.hi +ℤ pos 1)) _ _
    (λ e k.
    let low : b.lo ≤ℤ c.lo = f.0 in
    let meets : c.lo ≤ℤ (b.hi +ℤ pos 1) = omega (arith, ints, e) in
    let follows : LowsFollow (join_ends b c).lo cs = lows_from (join_ends b c).lo c.lo cs (omega (arith, ints, clamps)) f.1 in
    split_join b c cs v low meets (merge_only (join_ends b c) cs v follows k))
    (λ e k. elim k [ inl w ↦ inl w | inr w ↦ inr (merge_only c cs v f.1 w) ]) m

pub merge_all : (b : Bounds) (bs : List Bounds) (v : ℤ) → IsMember (b ∷ bs) v → IsMember (merge_from b bs) v
merge_all b [] v m = m
merge_all b (c ∷ cs) v m =
    at_test (λ ms. IsMember ms v) (int_le c.lo (b.hi +ℤ pos 1)) _ _
    (λ e. merge_all (join_ends b c) cs v (unsplit_join b c cs v m))
    (λ e. elim m [ inl w ↦ inl w | inr w ↦ inr (merge_all c cs v w) ])

-- the last range of a domain with another high end
raised_past : (a : Bounds) (xs : List Bounds) (b c : Bounds) → Ascends a (xs ++ b ∷ []) → c.lo ≡ b.lo → c.lo ≤ℤ c.hi → Ascends a (xs ++ c ∷ [])
raised_past a [] b c h e le = (h.0, subst (λ z. (a.hi +ℤ pos 1) <ℤ z) (sym e) h.1, le)
raised_past a (x ∷ xs) b c h e le = (h.0, h.1, raised_past x xs b c h.2 e le)

pub raised : (xs : List Bounds) (b c : Bounds) → IsDomain (xs ++ b ∷ []) → c.lo ≡ b.lo → c.lo ≤ℤ c.hi → IsDomain (xs ++ c ∷ [])
raised [] b c h e le = le
raised (x ∷ xs) b c h e le = raised_past x xs b c h e le

-- a domain with a range past its last
pushed_past : (a : Bounds) (xs : List Bounds) (b c : Bounds) → Ascends a (xs ++ b ∷ []) → (b.hi +ℤ pos 1) <ℤ c.lo → c.lo ≤ℤ c.hi → Ascends a ((xs ++ b ∷ []) ++ c ∷ [])
pushed_past a [] b c h lt le = (h.0, h.1, (h.2, lt, le))
pushed_past a (x ∷ xs) b c h lt le = (h.0, h.1, pushed_past x xs b c h.2 lt le)

pub pushed : (xs : List Bounds) (b c : Bounds) → IsDomain (xs ++ b ∷ []) → (b.hi +ℤ pos 1) <ℤ c.lo → c.lo ≤ℤ c.hi → IsDomain ((xs ++ b ∷ []) ++ c ∷ [])
pushed [] b c h lt le = (h, lt, le)
pushed (x ∷ xs) b c h lt le = pushed_past x xs b c h lt le

-- what is sorted by low ends ascends by them
abbrev pub lows_below : Bounds → Bounds → Bool
lows_below a b = is_lt (int_cmp a.lo b.lo)

tail_sorted : (b : Bounds) (bs : List Bounds) → IsSortedBy lows_below (b ∷ bs) → IsSortedBy lows_below bs
tail_sorted b bs up = λ k d z h.
    let e : suc k + 1 ≡ suc (k + 1) = omega arith in
    subst (λ i. lows_below (get_or (b ∷ bs) i d) (get_or bs k d) ≡ false) e (up (suc k) d (omega arith) (omega (arith, h)))

not_below : (x y : ℤ) → is_lt (int_cmp x y) ≡ false → y ≤ℤ x
not_below x y e = grind (arith, ints)

lows_follow : (b : Bounds) (bs : List Bounds) → IsSortedBy lows_below (b ∷ bs) → LowsFollow b.lo bs
lows_follow b [] up = tt
lows_follow b (c ∷ cs) up = (not_below c.lo b.lo (up 0 b (omega arith) (omega arith)), lows_follow c cs (tail_sorted b (c ∷ cs) up))

pub lows_ascend : (bs : List Bounds) → IsSortedBy lows_below bs → LowsAscend bs
lows_ascend [] up = tt
lows_ascend (b ∷ bs) up = lows_follow b bs up

-- members stay in another order
member_each : (xs : List Bounds) (v : ℤ) → All (λ b. IsWithin b v → IsMember xs v) xs
member_each [] v = λ k d h. absurd (omega (arith, h))
member_each (x ∷ xs) v = All-cons (λ b. IsWithin b v → IsMember (x ∷ xs) v) x xs (λ w. inl w) (λ k d h w. inr (member_each xs v k d h w))

member_by : (P : Type 0) (xs : List Bounds) (v : ℤ) → All (λ b. IsWithin b v → P) xs → IsMember xs v → P
member_by P [] v h m = absurd m
member_by P (x ∷ xs) v h (inl w) = All-head (λ b. IsWithin b v → P) x xs h w
member_by P (x ∷ xs) v h (inr w) = member_by P xs v (All-tail (λ b. IsWithin b v → P) x xs h) w

permuted : (xs ys : List Bounds) (v : ℤ) → IsPermutation xs ys → IsMember ys v → IsMember xs v
permuted xs ys v p m = member_by (IsMember xs v) ys v (All-permutation (λ b. IsWithin b v → IsMember xs v) xs ys p (member_each xs v)) m

pub same_members : (xs ys : List Bounds) → IsPermutation xs ys → (v : ℤ) → IsMember ys v ↔ IsMember xs v
same_members xs ys p v = (λ m. permuted xs ys v p m, λ m. permuted ys xs v (IsPermutation-sym xs ys p) m)

-- where the loop stands: what is merged, the last range, and what is left of all pieces
pub record Standing (merged : List Bounds) (last first : Bounds) (rest left : List Bounds) : Type 0 where
  pub same : merged ++ merge_from last left ≡ merge_from first rest
  pub ascends : IsDomain (merged ++ last ∷ [])
  pub follows : LowsFollow last.lo left

pub stands : (merged made : List Bounds) (last end first : Bounds) (rest left : List Bounds) → merged ≡ made → last ≡ end → Standing made end first rest left → Standing merged last first rest left
stands merged made last end first rest left p q s =
    subst (λ ds. Standing ds last first rest left) (sym p) (subst (λ b. Standing made b first rest left) (sym q) s)

at_most_is : (x y : ℤ) → x ≤ℤ y → int_le x y ≡ true
at_most_is x y h = grind (arith, ints)

above_is : (x y : ℤ) → x <ℤ y → int_le y x ≡ false
above_is x y h = grind (arith, ints)

pub next_of : (rest : List Bounds) (i : ℕ) (b : Bounds) → i < length rest → b ≡ get_or rest i b → drop i rest ≡ b ∷ drop (i + 1) rest
next_of rest i b lt is =
    let e : suc i ≡ i + 1 = omega arith in
    drop-cons rest i b lt ∙ ap (λ (h : Bounds). h ∷ drop (suc i) rest) (sym is) ∙ ap (λ k. b ∷ drop k rest) e

pub meets_next : (merged : List Bounds) (last first next : Bounds) (rest left : List Bounds) → Standing merged last first rest (next ∷ left) → next.lo ≤ℤ (last.hi +ℤ pos 1) → last.lo ≤ℤ last.hi → Standing merged (join_ends last next) first rest left
meets_next merged last first next rest left s meets le =
    let f = s.follows in
    let low : (join_ends last next).lo ≡ last.lo = omega (arith, ints, clamps, f.0) in
    let e : int_le next.lo (last.hi +ℤ pos 1) ≡ true = at_most_is next.lo (last.hi +ℤ pos 1) meets in
    record {
      same = ap (λ t. merged ++ (if t then merge_from (join_ends last next) left else last ∷ merge_from next left)) (sym e) ∙ s.same;
      ascends = raised merged last (join_ends last next) s.ascends low (omega (arith, ints, clamps));
      follows = lows_from (join_ends last next).lo next.lo left (omega (arith, ints, clamps)) f.1;
    }

pub begins_next : (merged : List Bounds) (last first next : Bounds) (rest left : List Bounds) → Standing merged last first rest (next ∷ left) → (last.hi +ℤ pos 1) <ℤ next.lo → next.lo ≤ℤ next.hi → Standing (merged ++ last ∷ []) next first rest left
begins_next merged last first next rest left s lt le =
    let f = s.follows in
    let e : int_le next.lo (last.hi +ℤ pos 1) ≡ false = above_is (last.hi +ℤ pos 1) next.lo lt in
    record {
      same = append_assoc merged (last ∷ []) (merge_from next left) ∙ ap (λ t. merged ++ (if t then merge_from (join_ends last next) left else last ∷ merge_from next left)) (sym e) ∙ s.same;
      ascends = pushed merged last next s.ascends lt le;
      follows = f.1;
    }

pub ends : (merged : List Bounds) (last first : Bounds) (rest : List Bounds) (v : ℤ) → LowsFollow first.lo rest → Standing merged last first rest [] → IsMember (merged ++ last ∷ []) v ↔ IsMember (first ∷ rest) v
ends merged last first rest v f s =
    (λ m. merge_only first rest v f (subst (λ ds. IsMember ds v) s.same m), λ m. subst (λ ds. IsMember ds v) (sym s.same) (merge_all first rest v m))
