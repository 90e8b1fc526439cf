-- The laws of stepwise lists.
use Rattle.std.proofs.Common.{◌≡◌, ◌⊎◌, ℕ, zero, suc, ◌+◌, ◌<◌, ◌≤◌, ℤ, ◌≤ℤ◌, List, [], ◌∷◌, ◌++◌, inl, inr, subst, arith}
use Rattle.std.proofs.lemmas.Int.{ints}
use Rattle.fz_model.specs.declared.model.Call.{Call}
use Rattle.fz_model.specs.Meaning.{at}
use Rattle.fz_model.specs.Fixing.{Fixes, Agree}
use Rattle.fz_model.proofs.Fixing.{fixed_by_calls}
use Rattle.lo_base.specs.Item.{Item, Ranged, Boolean, Posted, made}
use Rattle.lo_base.specs.Solved.{Meets}
use Rattle.lo_base.specs.Stepwise.{Settles, AreBits, Stepwise, OneExtension, Joins}
use Rattle.lo_base.proofs.Solving.{made-append, meets_split}

between : (lo v w : ℤ) → lo ≤ℤ v → v ≤ℤ lo → lo ≤ℤ w → w ≤ℤ lo → v ≡ w
between lo v w a b c d = omega (arith, ints)

pub settled : (k n : ℕ) (xs : List Item) (b c : List ℤ) → Settles k n xs → Agree k b c → AreBits xs b → AreBits xs c → Meets n xs b → Meets n xs c → at b k ≡ at c k
settled k n [] b c s agree t t' h h' = absurd s
settled k n (Ranged lo hi ∷ xs) b c s agree t t' h h' = elim s [
  | inl p ↦ rw p.0 (between lo (at b n) (at c n) h.0 (rw p.1 h.1) h'.0 (rw p.1 h'.1))
  | inr r ↦ settled k (n + 1) xs b c r agree t t' h.2 h'.2
]
settled k n (Boolean ∷ xs) b c s agree t t' h h' = settled k (n + 1) xs b c s agree t t' h.1 h'.1
settled k n (Posted call ∷ xs) b c s agree t t' h h' = elim s [
  | inl f ↦ fixed_by_calls k call b c f agree t.0 t'.0 h.0 h'.0
  | inr r ↦ settled k n xs b c r agree t.1 t'.1 h.1 h'.1
]

below_or_not : (k m : ℕ) → (k < m) ⊎ (m ≤ k)
below_or_not k m = grind arith

-- what agrees below m, and at m, agrees below m + 1
one_more : (m : ℕ) (b c : List ℤ) → Agree m b c → at b m ≡ at c m → Agree (suc m) b c
one_more m b c agree e j lt = elim (below_or_not j m) [ inl l ↦ agree j l | inr l ↦ (let same : j ≡ m = omega arith in rw same e) ]

up_to : (n : ℕ) (xs : List Item) (b c : List ℤ) → Stepwise n xs → AreBits xs b → AreBits xs c → Agree n b c → Meets n xs b → Meets n xs c → (m : ℕ) → m ≤ made xs → Agree (n + m) b c
up_to n xs b c s t t' agree h h' zero le = subst (λ (k : ℕ). Agree k b c) (omega arith) agree
up_to n xs b c s t t' agree h h' (suc m) le =
    let earlier = up_to n xs b c s t t' agree h h' m (omega arith) in
    subst (λ (k : ℕ). Agree k b c) (omega arith) (one_more (n + m) b c earlier (settled (n + m) n xs b c (s.each (n + m) (omega arith) (omega arith)) earlier t t' h h'))

pub one_extension : OneExtension
one_extension n xs b c s t t' agree h h' = up_to n xs b c s t t' agree h h' (made xs) (omega arith)

pub bits_join : (xs ys : List Item) (b : List ℤ) → AreBits xs b → AreBits ys b → AreBits (xs ++ ys) b
bits_join [] ys b s t = t
bits_join (Ranged lo hi ∷ xs) ys b s t = bits_join xs ys b s t
bits_join (Boolean ∷ xs) ys b s t = bits_join xs ys b s t
bits_join (Posted call ∷ xs) ys b s t = (s.0, bits_join xs ys b s.1 t)

pub settles_left : (k n : ℕ) (xs ys : List Item) → Settles k n xs → Settles k n (xs ++ ys)
settles_left k n [] ys s = absurd s
settles_left k n (Ranged lo hi ∷ xs) ys s = elim s [ inl p ↦ inl p | inr r ↦ inr (settles_left k (n + 1) xs ys r) ]
settles_left k n (Boolean ∷ xs) ys s = settles_left k (n + 1) xs ys s
settles_left k n (Posted call ∷ xs) ys s = elim s [ inl f ↦ inl f | inr r ↦ inr (settles_left k n xs ys r) ]

settles_at : (k m n : ℕ) (xs : List Item) → m ≡ n → Settles k m xs → Settles k n xs
settles_at k m n xs e s = subst (λ (i : ℕ). Settles k i xs) e s

pub settles_right : (k n : ℕ) (xs ys : List Item) → Settles k (n + made xs) ys → Settles k n (xs ++ ys)
settles_right k n [] ys s = settles_at k (n + 0) n ys (omega arith) s
settles_right k n (Ranged lo hi ∷ xs) ys s = inr (settles_right k (n + 1) xs ys (settles_at k (n + (1 + made xs)) (n + 1 + made xs) ys (omega arith) s))
settles_right k n (Boolean ∷ xs) ys s = settles_right k (n + 1) xs ys (settles_at k (n + (1 + made xs)) (n + 1 + made xs) ys (omega arith) s)
settles_right k n (Posted call ∷ xs) ys s = inr (settles_right k n xs ys (settles_at k (n + (0 + made xs)) (n + made xs) ys (omega arith) s))

pub joins : Joins
joins n xs ys s t = record {
  each = λ k le lt.
      elim (below_or_not k (n + made xs)) [
        | inl l ↦ settles_left k n xs ys (s.each k le l)
        | inr l ↦ settles_right k n xs ys (t.each k l (omega (arith, made-append xs ys)))
      ];
}

pub stepwise_nil : (n : ℕ) → Stepwise n []
stepwise_nil n = record { each = λ k le lt. absurd (omega arith) }

pub stepwise_posted : (n : ℕ) (call : Call) (xs : List Item) → Stepwise n xs → Stepwise n (Posted call ∷ xs)
stepwise_posted n call xs s = record { each = λ k le lt. inr (s.each k le (omega arith)) }
