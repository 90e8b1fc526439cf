-- The members of a domain lie from its least to its greatest.
use Rattle.std.proofs.Common.{◌≡◌, refl, sym, ap, ◌∙◌, subst, suc, ℕ, ◌-◌, List, [], ◌∷◌, get_or, length, ℤ, ◌≤ℤ◌, ◌<ℤ◌, ◌⊎◌, inl, inr, arith}
use Rattle.std.proofs.lemmas.Int.{ints}
use Rattle.xf_num.specs.Span.{Bounds, IsWithin}
use Rattle.xf_num.specs.Domain.{IsMember, Ascends, IsDomain, least_of, greatest_of}

valid : (b : Bounds) (bs : List Bounds) → Ascends b bs → b.lo ≤ℤ b.hi
valid b [] h = h
valid b (c ∷ cs) h = h.0

-- what the later ranges hold is past the first
past : (b : Bounds) (bs : List Bounds) (v : ℤ) → Ascends b bs → IsMember bs v → b.hi <ℤ v
past b [] v h m = absurd m
past b (c ∷ cs) v h (inl w) = omega (arith, ints, h.1, w.from)
past b (c ∷ cs) v h (inr w) = omega (arith, ints, h.1, valid c cs h.2, past c cs v h.2 w)

pub least-IsMember : (ds : List Bounds) → IsDomain ds → IsMember ds (least_of ds)
least-IsMember [] h = absurd h
least-IsMember (b ∷ bs) h = inl (record { from = omega (arith, ints); to = valid b bs h })

pub least_bound : (ds : List Bounds) → IsDomain ds → (v : ℤ) → IsMember ds v → least_of ds ≤ℤ v
least_bound [] h v m = absurd h
least_bound (b ∷ bs) h v (inl w) = w.from
least_bound (b ∷ bs) h v (inr w) = omega (arith, ints, valid b bs h, past b bs v h w)

pub greatest-IsMember : (ds : List Bounds) → IsDomain ds → IsMember ds (greatest_of ds)
greatest-IsMember [] h = absurd h
greatest-IsMember (b ∷ []) h = inl (record { from = h; to = omega (arith, ints) })
greatest-IsMember (b ∷ (c ∷ cs)) h = inr (greatest-IsMember (c ∷ cs) h.2)

pub greatest_bound : (ds : List Bounds) → IsDomain ds → (v : ℤ) → IsMember ds v → v ≤ℤ greatest_of ds
greatest_bound [] h v m = absurd h
greatest_bound (b ∷ []) h v (inl w) = w.to
greatest_bound (b ∷ []) h v (inr w) = absurd w
greatest_bound (b ∷ (c ∷ cs)) h v (inl w) = omega (arith, ints, w.to, past b (c ∷ cs) (greatest_of (c ∷ cs)) h (greatest-IsMember (c ∷ cs) h.2))
greatest_bound (b ∷ (c ∷ cs)) h v (inr w) = greatest_bound (c ∷ cs) h.2 v w

last_hi : (b : Bounds) (bs : List Bounds) (d : Bounds) → (get_or (b ∷ bs) (length bs) d).hi ≡ greatest_of (b ∷ bs)
last_hi b [] d = refl
last_hi b (c ∷ cs) d = last_hi c cs d

pub greatest_is : (ds : List Bounds) (b : Bounds) → IsDomain ds → b ≡ get_or ds (length ds - 1) b → b.hi ≡ greatest_of ds
greatest_is [] b h e = absurd h
greatest_is (x ∷ xs) b h e =
    let i : length (x ∷ xs) - 1 ≡ length xs = omega arith in
    ap (λ (s : Bounds). s.hi) (e ∙ ap (λ k. get_or (x ∷ xs) k b) i) ∙ last_hi x xs b
