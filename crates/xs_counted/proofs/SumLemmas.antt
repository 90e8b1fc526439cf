-- Sums of products stay small where the magnitude of the constraint is.
use Rattle.std.proofs.Common.{◌≡◌, ℕ, zero, suc, ◌+◌, ◌*◌, ◌<◌, ◌≤◌, ℤ, pos, negsuc, neg_ℤ, ◌≤ℤ◌, ◌+ℤ◌, ◌*ℤ◌, nat_abs, max, List, [], ◌∷◌, length, map, refl, ap, sym, ◌∙◌, arith, unsigned_abs}
use Rattle.std.specs.Prelude.{FitsSigned}
use Rattle.std.specs.Int.{w128}
use Rattle.std.proofs.lemmas.Int.{ints, unsigned_abs-mul, fits_signed_from_abs}
use Rattle.std.proofs.lemmas.Nat.{mul-le}
use Rattle.std.proofs.Math.Nat.{le-max_left, le-max_right}
use Rattle.xf_num.specs.Span.{Bounds, IsWithin, magnitude_of}
use Rattle.xs_model.specs.declared.instance.Constraint.TheVariants.{Sum}
use Rattle.xs_model.specs.declared.term.Cond.{Cond}
use Rattle.xs_model.specs.declared.term.Term.{Term}
use Rattle.xs_model.specs.declared.term.Term.TheVariants.{Int, Var}
use Rattle.xs_model.specs.Accepted.{IsMeasured}
use Rattle.xs_model.specs.Bounds.{operand}
use Rattle.xs_model.specs.Conditions.{value_of}
use Rattle.xs_model.specs.Fields.{Variable, item_of}
use Rattle.xs_model.specs.Formed.{total}
use Rattle.xs_model.specs.Instance.{term_values, values}
use Rattle.xs_model.specs.Magnitude.{item_magnitude, product_magnitudes}
use Rattle.xs_model.specs.Sound.{magnitudes}
use Rattle.xs_model.specs.Spans.{AreWithin}
use Rattle.xs_model.specs.Value.{at}
use Rattle.xs_counted.specs.Tests.{size_of_products}

-- a number and its absolute value
upper : (x : ℤ) → x ≤ℤ pos (nat_abs x)
upper (pos n) = omega (arith, ints)
upper (negsuc n) = omega (arith, ints)

lower : (x : ℤ) → neg_ℤ (pos (nat_abs x)) ≤ℤ x
lower (pos n) = omega (arith, ints)
lower (negsuc n) = omega (arith, ints)

between : (x : ℤ) (n : ℕ) → x ≤ℤ pos n → neg_ℤ (pos n) ≤ℤ x → nat_abs x ≤ n
between (pos m) n h k = omega (arith, ints, h)
between (negsuc m) n h k = omega (arith, ints, k)

pub sum_size : (x y : ℤ) → nat_abs (x +ℤ y) ≤ nat_abs x + nat_abs y
sum_size x y =
    let a = upper x in
    let b = upper y in
    let c = lower x in
    let d = lower y in
    between (x +ℤ y) (nat_abs x + nat_abs y) (omega (arith, ints, a, b)) (omega (arith, ints, c, d))

high_end : (n : ℕ) (y : ℤ) → pos n ≤ℤ y → n ≤ unsigned_abs y
high_end n (pos m) h = omega (arith, ints, h)
high_end n (negsuc m) h = absurd (omega (arith, ints, h))

low_end : (n : ℕ) (y : ℤ) → y ≤ℤ negsuc n → suc n ≤ unsigned_abs y
low_end n (pos m) h = absurd (omega (arith, ints, h))
low_end n (negsuc m) h = omega (arith, ints, h)

within_size : (b : Bounds) (x : ℤ) → IsWithin b x → nat_abs x ≤ magnitude_of b
within_size b (pos n) h = let e = high_end n b.hi h.to in let m = le-max_right (unsigned_abs b.lo) (unsigned_abs b.hi) in omega (arith, e, m)
within_size b (negsuc n) h = let e = low_end n b.lo h.from in let m = le-max_left (unsigned_abs b.lo) (unsigned_abs b.hi) in omega (arith, e, m)

pub value_size : (spans : List Bounds) (a : List ℤ) (v : ℕ) → AreWithin spans a → nat_abs (at a v) ≤ magnitude_of (operand spans v)
value_size [] [] v h = omega arith
value_size [] (x ∷ a) v h = absurd h
value_size (b ∷ spans) [] v h = absurd h
value_size (b ∷ spans) (x ∷ a) zero h = within_size b x h.0
value_size (b ∷ spans) (x ∷ a) (suc v) h = value_size spans a v h.1

term_size : (spans : List Bounds) (a : List ℤ) (t : Term) → AreWithin spans a → nat_abs (value_of a t) ≤ item_magnitude spans (item_of t)
term_size spans a (Int z) h = omega arith
term_size spans a (Var v) h = value_size spans a v h

product_size : (c x : ℤ) (m n : ℕ) → nat_abs c ≤ m → nat_abs x ≤ n → nat_abs (c *ℤ x) ≤ m * n
product_size c x m n h k = let is = unsigned_abs-mul c x in let le = mul-le (nat_abs c) (nat_abs x) m n h k in omega (arith, is, le)

sizes_within : (spans : List Bounds) (a : List ℤ) (cs : List Term) (vs : List ℕ) → AreWithin spans a → size_of_products (term_values a cs) (values a vs) ≤ total (product_magnitudes spans cs vs)
sizes_within spans a [] vs h = omega arith
sizes_within spans a (c ∷ cs) [] h = omega arith
sizes_within spans a (c ∷ cs) (v ∷ vs) h =
    let here = product_size (value_of a c) (at a v) (item_magnitude spans (item_of c)) (item_magnitude spans (Variable v)) (term_size spans a c h) (value_size spans a v h) in
    let rest = sizes_within spans a cs vs h in
    omega (arith, here, rest)

pub sum_measured : (spans : List Bounds) (a : List ℤ) (list : List ℕ) (coeffs : List Term) (cond : Cond) → AreWithin spans a → IsMeasured spans (Sum list coeffs cond) → size_of_products (term_values a coeffs) (values a list) ≤ magnitudes
sum_measured spans a list coeffs cond within h = let sizes = sizes_within spans a coeffs list within in omega (arith, sizes, h)

-- what is small fits
pub small_fits : (x : ℤ) → nat_abs x ≤ magnitudes → FitsSigned w128 x
small_fits x h = fits_signed_from_abs w128 x (omega (arith, h))

pub product_fits : (s p : ℤ) → nat_abs s + nat_abs p ≤ magnitudes → FitsSigned w128 p
product_fits s p h = small_fits p (omega (arith, h))

pub sum_fits : (s p : ℤ) → nat_abs s + nat_abs p ≤ magnitudes → FitsSigned w128 (s +ℤ p)
sum_fits s p h = let size = sum_size s p in small_fits (s +ℤ p) (omega (arith, h, size))
