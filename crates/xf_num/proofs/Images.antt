-- That the ends of the operations on one span, of lesser and greater and of quotients are those of the least span.
use Rattle.std.proofs.Common.{◌≡◌, refl, sym, ◌∙◌, ap, ◌==◌, if◌then◌else◌, subst, zero, suc, ℕ, ◌+◌, ◌*◌, ◌/◌, ◌%◌, ◌<◌, ◌≤◌, ℤ, pos, negsuc, ◌+ℤ◌, ◌-ℤ◌, neg_ℤ, ◌≤ℤ◌, ◌<ℤ◌, arith, unsigned_abs, FitsSigned}
use Rattle.std.proofs.lemmas.Int.{ints, clamps, by_lt_z}
use Rattle.std.proofs.lemmas.Nat.{le-div}
use Rattle.std.proofs.Math.Nat.{mul-le-mul_left, div-mul-le_self, mod-le, mod-lt}
use Rattle.std.specs.Prelude.{int_div, int_rem}
use Rattle.std.specs.Int.{w128, int_min, int_max}
use Rattle.xf_num.specs.Span.{Bounds, IsWithin, IsHull, IsImageHull, IsJoin, HoldsResults, EndsFit, int_abs, int_pow, sub_ends, min_ends, max_ends, neg_ends, abs_ends, raised_ends, pow_base, pow_ends, div_ends, rem_ends, join_ends}
use Rattle.xf_num.proofs.Powers.{pow-even, pow_from_zero, pow_odd, pow_above}

pub same_ends : (s t : Bounds) → s.lo ≡ t.lo → s.hi ≡ t.hi → s ≡ t
same_ends s t p q = ap (λ (a : ℤ). record { lo = a; hi = s.hi }) p ∙ ap (λ (a : ℤ). record { lo = t.lo; hi = a }) q

abbrev at_low : (s : Bounds) → s.lo ≤ℤ s.hi → IsWithin s s.lo
at_low s h = record { from = omega (arith, ints); to = h }

abbrev at_high : (s : Bounds) → s.lo ≤ℤ s.hi → IsWithin s s.hi
at_high s h = record { from = h; to = omega (arith, ints) }

pub sub-IsHull : (s t : Bounds) → s.lo ≤ℤ s.hi → t.lo ≤ℤ t.hi → IsHull ◌-ℤ◌ s t (sub_ends s t)
sub-IsHull s t hs ht = record {
  holds = λ x y hx hy. record { from = omega (arith, ints, hx.from, hy.to); to = omega (arith, ints, hx.to, hy.from) };
  least = λ q h. ((h s.lo t.hi (at_low s hs) (at_high t ht)).from, (h s.hi t.lo (at_high s hs) (at_low t ht)).to);
}

pub min-IsHull : (s t : Bounds) → s.lo ≤ℤ s.hi → t.lo ≤ℤ t.hi → IsHull int_min s t (min_ends s t)
min-IsHull s t hs ht = record {
  holds = λ x y hx hy. record { from = omega (arith, ints, clamps, hx.from, hy.from); to = omega (arith, ints, clamps, hx.to, hy.to) };
  least = λ q h. ((h s.lo t.lo (at_low s hs) (at_low t ht)).from, (h s.hi t.hi (at_high s hs) (at_high t ht)).to);
}

pub max-IsHull : (s t : Bounds) → s.lo ≤ℤ s.hi → t.lo ≤ℤ t.hi → IsHull int_max s t (max_ends s t)
max-IsHull s t hs ht = record {
  holds = λ x y hx hy. record { from = omega (arith, ints, clamps, hx.from, hy.from); to = omega (arith, ints, clamps, hx.to, hy.to) };
  least = λ q h. ((h s.lo t.lo (at_low s hs) (at_low t ht)).from, (h s.hi t.hi (at_high s hs) (at_high t ht)).to);
}

pub neg-IsImageHull : (s : Bounds) → s.lo ≤ℤ s.hi → IsImageHull neg_ℤ s (neg_ends s)
neg-IsImageHull s hs = record {
  holds = λ x hx. record { from = omega (arith, ints, hx.to); to = omega (arith, ints, hx.from) };
  least = λ q h. ((h s.hi (at_high s hs)).from, (h s.lo (at_low s hs)).to);
}

-- some x of s has the absolute value a
record Reached (s : Bounds) (a : ℤ) : Type 0 where
  by : ℤ
  inside : IsWithin s by
  value : int_abs by ≡ a

least_reached : (s : Bounds) → s.lo ≤ℤ s.hi → Reached s (abs_ends s).lo
least_reached s hs =
    by_lt_z s.lo (pos 0)
    (λ below. by_lt_z (pos 0) s.hi
    (λ above. record { by = pos 0; inside = record { from = omega (arith, ints); to = omega (arith, ints) }; value = omega (arith, ints, clamps) })
    (λ high. record { by = s.hi; inside = at_high s hs; value = omega (arith, ints, clamps) }))
    (λ low. record { by = s.lo; inside = at_low s hs; value = omega (arith, ints, clamps) })

greatest_reached : (s : Bounds) → s.lo ≤ℤ s.hi → Reached s (abs_ends s).hi
greatest_reached s hs =
    by_lt_z s.hi (neg_ℤ s.lo)
    (λ low. record { by = s.lo; inside = at_low s hs; value = omega (arith, ints, clamps) })
    (λ high. record { by = s.hi; inside = at_high s hs; value = omega (arith, ints, clamps) })

abs_within : (s : Bounds) (x : ℤ) → IsWithin s x → IsWithin (abs_ends s) (int_abs x)
abs_within s x h = record { from = omega (arith, ints, clamps, h.from, h.to); to = omega (arith, ints, clamps, h.from, h.to) }

pub abs-IsImageHull : (s : Bounds) → s.lo ≤ℤ s.hi → IsImageHull int_abs s (abs_ends s)
abs-IsImageHull s hs =
    let low = least_reached s hs in
    let high = greatest_reached s hs in
    record {
      holds = λ x hx. abs_within s x hx;
      least = λ q h.
          (subst (λ a. q.lo ≤ℤ a) low.value (h low.by low.inside).from, subst (λ a. a ≤ℤ q.hi) high.value (h high.by high.inside).to);
    }

even-IsImageHull : (s : Bounds) (k : ℕ) → s.lo ≤ℤ s.hi → k % 2 ≡ 0 → IsImageHull (λ x. int_pow x k) s (raised_ends (abs_ends s) k)
even-IsImageHull s k hs e =
    let low = least_reached s hs in
    let high = greatest_reached s hs in
    record {
      holds = λ x hx.
          let w = abs_within s x hx in
          let from : pos 0 ≤ℤ (abs_ends s).lo = omega (arith, ints, clamps) in
          subst (IsWithin (raised_ends (abs_ends s) k)) (sym (pow-even x k e))
          (record { from = pow_from_zero _ _ k from w.from; to = pow_from_zero _ _ k (omega (arith, ints)) w.to });
      least = λ q h.
          let a = h low.by low.inside in
          let b = h high.by high.inside in
          (subst (λ z. q.lo ≤ℤ z) (pow-even low.by k e ∙ ap (λ z. int_pow z k) low.value) a.from, subst (λ z. z ≤ℤ q.hi) (pow-even high.by k e ∙ ap (λ z. int_pow z k) high.value) b.to);
    }

odd-IsImageHull : (s : Bounds) (k : ℕ) → s.lo ≤ℤ s.hi → k % 2 ≡ 1 → IsImageHull (λ x. int_pow x k) s (raised_ends s k)
odd-IsImageHull s k hs o = record {
  holds = λ x hx. record { from = pow_odd _ _ k o hx.from; to = pow_odd _ _ k o hx.to };
  least = λ q h. ((h s.lo (at_low s hs)).from, (h s.hi (at_high s hs)).to);
}

-- what holds at an even and at an odd exponent
at_parity : (P : Bounds → Type 0) (a s : Bounds) (r : ℕ) → (r ≡ 0 → P a) → (r ≡ 1 → P s) → r < 2 → P (if r == 0 then a else s)
at_parity P a s zero e o h = e refl
at_parity P a s (suc zero) e o h = o refl
at_parity P a s (suc (suc r)) e o h = absurd (omega arith)

pub pow-IsImageHull : (s : Bounds) (k : ℕ) → s.lo ≤ℤ s.hi → IsImageHull (λ x. int_pow x k) s (pow_ends s k)
pow-IsImageHull s k hs =
    at_parity (λ b. IsImageHull (λ x. int_pow x k) s (raised_ends b k)) (abs_ends s) s (k % 2) (λ e. even-IsImageHull s k hs e) (λ o. odd-IsImageHull s k hs o) (omega arith)

pub pow_ordered : (s : Bounds) (k : ℕ) → s.lo ≤ℤ s.hi → (pow_ends s k).lo ≤ℤ (pow_ends s k).hi
pow_ordered s k hs =
    let h = (pow-IsImageHull s k hs).holds s.lo (at_low s hs) in
    omega (arith, ints, h.from, h.to)

-- where the powers fit, so do the ends that they are of
pub base_fits : (s : Bounds) (k : ℕ) → s.lo ≤ℤ s.hi → 1 ≤ k → EndsFit s → EndsFit (pow_ends s k) → EndsFit (pow_base s k)
base_fits s k hs one fits =
    at_parity (λ b. EndsFit (raised_ends b k) → EndsFit b) (abs_ends s) s (k % 2)
    (λ e f.
    let from : pos 0 ≤ℤ (abs_ends s).hi = omega (arith, ints, clamps) in
    let above = pow_above (abs_ends s).hi k from one in
    record { lo_fits = omega (arith, ints, clamps, above, f.hi_fits); hi_fits = omega (arith, ints, clamps, above, f.hi_fits) })
    (λ o f. fits) (omega arith)

pub join-IsJoin : (s t : Bounds) → s.lo ≤ℤ s.hi → t.lo ≤ℤ t.hi → IsJoin s t (join_ends s t)
join-IsJoin s t hs ht = record {
  left = λ x h. record { from = omega (arith, ints, clamps, h.from); to = omega (arith, ints, clamps, h.to) };
  right = λ x h. record { from = omega (arith, ints, clamps, h.from); to = omega (arith, ints, clamps, h.to) };
  least = λ q f g x h.
      let a = f s.lo (at_low s hs) in
      let b = f s.hi (at_high s hs) in
      let c = g t.lo (at_low t ht) in
      let d = g t.hi (at_high t ht) in
      record { from = omega (arith, ints, clamps, h.from, a.from, c.from); to = omega (arith, ints, clamps, h.to, b.to, d.to) };
}

quotient_order : (a b x y : ℕ) → a ≤ x → 0 < y → y ≤ b → a / b ≤ x / y
quotient_order a b x y p h q = le-div (a / b) x y h (omega (arith, mul-le-mul_left (a / b) q, div-mul-le_self a b))

pub quotients : (a b x y : ℤ) → pos 0 ≤ℤ a → a ≤ℤ x → pos 1 ≤ℤ y → y ≤ℤ b → int_div a b ≤ℤ int_div x y
quotients (pos a) (pos b) (pos x) (pos y) l p h q =
    let ax : a ≤ x = omega (arith, ints) in
    let yb : y ≤ b = omega (arith, ints) in
    let one : 0 < y = omega (arith, ints) in
    omega (arith, ints, quotient_order a b x y ax one yb)
quotients (negsuc a) b x y l p h q = absurd (omega (arith, ints))
quotients (pos a) (negsuc b) x (pos y) l p h q = absurd (omega (arith, ints))
quotients (pos a) b x (negsuc y) l p h q = absurd (omega (arith, ints))
quotients (pos a) (pos b) (negsuc x) (pos y) l p h q = absurd (omega (arith, ints))

pub div-IsHull : (s t : Bounds) → s.lo ≤ℤ s.hi → t.lo ≤ℤ t.hi → pos 0 ≤ℤ s.lo → pos 1 ≤ℤ t.lo → IsHull int_div s t (div_ends s t)
div-IsHull s t hs ht p q = record {
  holds = λ x y hx hy.
      record {
        from = quotients s.lo t.hi x y p hx.from (omega (arith, ints, hy.from)) hy.to;
        to = quotients x y s.hi t.lo (omega (arith, ints, hx.from)) hx.to q hy.from;
      };
  least = λ r h. ((h s.lo t.hi (at_low s hs) (at_high t ht)).from, (h s.hi t.lo (at_high s hs) (at_low t ht)).to);
}

-- a remainder lies from 0 up to the dividend, and below the divisor
record IsRemainder (x y r : ℤ) : Type 0 where
  from : pos 0 ≤ℤ r
  to : r ≤ℤ x
  below : r <ℤ y

remainder : (x y : ℤ) → pos 0 ≤ℤ x → pos 1 ≤ℤ y → IsRemainder x y (int_rem x y)
remainder (pos x) (pos y) p q =
    let one : 0 < y = omega (arith, ints) in
    record { from = omega (arith, ints); to = omega (arith, ints, mod-le x y); below = omega (arith, ints, mod-lt x one) }
remainder (negsuc x) y p q = absurd (omega (arith, ints))
remainder (pos x) (negsuc y) p q = absurd (omega (arith, ints))

pub rem-HoldsResults : (s t : Bounds) → pos 0 ≤ℤ s.lo → pos 1 ≤ℤ t.lo → HoldsResults int_rem s t (rem_ends s t)
rem-HoldsResults s t p q =
    λ x y hx hy.
    let r = remainder x y (omega (arith, ints, hx.from)) (omega (arith, ints, hy.from)) in
    record { from = r.from; to = omega (arith, ints, clamps, r.to, r.below, hx.to, hy.to) }
