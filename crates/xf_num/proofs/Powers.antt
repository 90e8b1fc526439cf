-- Powers of integers: signs and order.
use Rattle.std.proofs.Common.{◌≡◌, refl, sym, ◌∙◌, ap, subst, zero, suc, ℕ, ◌+◌, ◌*◌, ◌%◌, ◌^◌, ◌<◌, ◌≤◌, ℤ, pos, negsuc, ◌*ℤ◌, neg_ℤ, ◌≤ℤ◌, ◌⊎◌, inl, inr, arith, unsigned_abs, FitsSigned, ◌==◌, cond, nat_eq, eq-eqb, true, false}
use Rattle.std.proofs.lemmas.Int.{ints}
use Rattle.std.proofs.Math.Nat.{pow-zero, pow-suc, pow-le-pow_left, one-le-pow, mul-le-mul_right}
use Rattle.std.specs.Int.{int_pow as signed_pow}
use Rattle.xf_num.specs.Span.{int_abs, int_pow}
use borrow.Author.Differences.{same_in, at_most_in, le_out}

pub pow-pos : (n k : ℕ) → int_pow (pos n) k ≡ pos (n ^ k)
pow-pos n zero = ap pos (sym (pow-zero n))
pow-pos n (suc k) = ap (λ z. z *ℤ pos n) (pow-pos n k) ∙ ap pos (sym (pow-suc n k))

neg_times : (m n : ℕ) → neg_ℤ (pos m) *ℤ negsuc n ≡ pos (m * suc n)
neg_times zero n = grind arith
neg_times (suc m) n = refl

-- of a negative number: the sign is that of the exponent's parity
record Signed (n k : ℕ) : Type 0 where
  even : k % 2 ≡ 0 → int_pow (negsuc n) k ≡ pos (suc n ^ k)
  odd : k % 2 ≡ 1 → int_pow (negsuc n) k ≡ neg_ℤ (pos (suc n ^ k))

signed : (n k : ℕ) → Signed n k
signed n zero = record { even = λ e. ap pos (sym (pow-zero (suc n))); odd = λ e. absurd (omega arith) }
signed n (suc k) =
    let h : Signed n k = signed n k in
    let w : pos (suc n ^ k * suc n) ≡ pos (suc n ^ suc k) = ap pos (sym (pow-suc (suc n) k)) in
    record {
      even = λ e. let o : k % 2 ≡ 1 = omega arith in ap (λ z. z *ℤ negsuc n) (h.odd o) ∙ neg_times (suc n ^ k) n ∙ w;
      odd = λ e. let o : k % 2 ≡ 0 = omega arith in ap (λ z. z *ℤ negsuc n) (h.even o) ∙ ap neg_ℤ w;
    }

-- an even power is that of the absolute value
pub pow-even : (x : ℤ) (k : ℕ) → k % 2 ≡ 0 → int_pow x k ≡ int_pow (int_abs x) k
pow-even (pos n) k e = refl
pow-even (negsuc n) k e = (signed n k).even e ∙ sym (pow-pos (suc n) k)

-- the power is the library's
pub pow-signed : (x : ℤ) (k : ℕ) → int_pow x k ≡ signed_pow x k
pow-signed (pos n) k = pow-pos n k
pow-signed (negsuc n) k =
    let h : Signed n k = signed n k in
    grind (arith, h.even, h.odd)

le_along : (a b c d : ℤ) → a ≡ b → c ≡ d → b ≤ℤ d → a ≤ℤ c
le_along a b c d p q h = omega (arith, ints)

pos_order : (m n : ℕ) → m ≤ n → pos m ≤ℤ pos n
pos_order m n h = omega (arith, ints)

neg_order : (m n : ℕ) → n ≤ m → neg_ℤ (pos m) ≤ℤ neg_ℤ (pos n)
neg_order m n h = omega (arith, ints)

neg_below : (m n : ℕ) → neg_ℤ (pos m) ≤ℤ pos n
neg_below m n = omega (arith, ints)

pub pow_from_zero : (x y : ℤ) (k : ℕ) → pos 0 ≤ℤ x → x ≤ℤ y → int_pow x k ≤ℤ int_pow y k
pow_from_zero (pos a) (pos b) k p q =
    let le : a ≤ b = omega (arith, ints) in
    le_along _ _ _ _ (pow-pos a k) (pow-pos b k) (pos_order _ _ (pow-le-pow_left le k))
pow_from_zero (negsuc a) y k p q = absurd (omega (arith, ints))
pow_from_zero (pos a) (negsuc b) k p q = absurd (omega (arith, ints))

pub pow_odd : (x y : ℤ) (k : ℕ) → k % 2 ≡ 1 → x ≤ℤ y → int_pow x k ≤ℤ int_pow y k
pow_odd (pos a) y k o q = pow_from_zero (pos a) y k (omega (arith, ints)) q
pow_odd (negsuc a) (pos b) k o q = le_along _ _ _ _ ((signed a k).odd o) (pow-pos b k) (neg_below _ _)
pow_odd (negsuc a) (negsuc b) k o q =
    let le : suc b ≤ suc a = omega (arith, ints) in
    le_along _ _ _ _ ((signed a k).odd o) ((signed b k).odd o) (neg_order _ _ (pow-le-pow_left le k))

-- a power is at least its base
pub pow_above : (x : ℤ) (k : ℕ) → pos 0 ≤ℤ x → 1 ≤ k → x ≤ℤ int_pow x k
pow_above (pos zero) k p h = le_along _ _ _ _ refl (pow-pos zero k) (pos_order _ _ (omega arith))
pow_above (pos (suc a)) zero p h = absurd (omega arith)
pow_above (pos (suc a)) (suc k) p h =
    let some : 0 < suc a = omega arith in
    le_along _ _ _ _ refl (pow-pos (suc a) (suc k)) (pos_order _ _ (omega (arith, pow-suc (suc a) k, mul-le-mul_right (suc a) (one-le-pow k (suc a) some))))
pow_above (negsuc a) k p h = absurd (omega (arith, ints))
