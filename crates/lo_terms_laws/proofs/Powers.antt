-- The steps of a power.
use Rattle.std.proofs.Common.{◌≡◌, ℕ, zero, suc, ◌+◌, ◌*◌, ◌^◌, ◌%◌, ◌<◌, ◌≤◌, ◌==◌, ℤ, pos, negsuc, neg_ℤ, ◌≤ℤ◌, ◌*ℤ◌, ◌⊎◌, inl, inr, Bool, true, false, List, refl, ap, sym, ◌∙◌, subst, arith, true≢false, Ok}
use Rattle.std.specs.Prelude.{int_le, unsigned_abs, if◌then◌else◌}
use Rattle.std.proofs.lemmas.Int.{ints, clamps, unsigned_abs-mul}
use Rattle.std.proofs.Math.Nat.{pow-zero, pow-suc, pow-le-pow_left, pow-le-pow_right, mul-zero}
use Rattle.std.specs.Int.{int_max}
use Rattle.xf_num.specs.Span.{Bounds, IsWithin, pow_ends, pow_base, abs_ends, raised_ends, int_pow}
use Rattle.xf_num.proofs.Images.{pow-IsImageHull}
use Rattle.fz_model.specs.declared.builtin.Builtin.TheVariants.{IntTimes}
use Rattle.xs_model.specs.Sound.{magnitudes}
use Rattle.xs_model.specs.Value.{power, exponent_of}
use Rattle.xs_model.specs.Bounds.{limited}
use Rattle.xs_model.specs.Shape.{IsExponent}
use Rattle.xs_expr.proofs.Powers.{power-is}
use Rattle.xs_expr.proofs.Within.{IsHeld, AreSmall, IsSmall, limited-is, ordered}
use Rattle.lo_base.specs.Item.{made}
use Rattle.lo_terms.specs.declared.term.Operand.{Operand}
use Rattle.lo_emit.specs.declared.term.Term.{Term}
use Rattle.lo_emit.specs.declared.term.Term.TheVariants.{Int}
use Rattle.lo_emit.specs.Emitted.{Out, integer_of_two}
use Rattle.lo_terms.specs.Emitted.{kept}
use Rattle.lo_terms.specs.Rules.{powers, power_of, steps_of, steps_to}
use Rattle.lo_rules.specs.Rule.{num, Before, Yields}
use Rattle.lo_rules.proofs.Chains.{yields_behind}
use Rattle.lo_rules.proofs.Integers.{yields_product}
use Rattle.lo_rules.proofs.Terms.{before_more, yields_as, yields_standing}
use Rattle.lo_rules.proofs.Tests.{le_met, le_is}
use Rattle.lo_terms_laws.proofs.Operands.{kept_held, small_limited}

-- the bounds of each power up to t are within the limit
abbrev Limited : Bounds → ℕ → Type 0
Limited w t = (m : ℕ) → 1 ≤ m → m ≤ t → limited (pow_ends w m) ≡ Ok (pow_ends w m)

yields_powers : (W D : List ℤ → Type 0) (n : ℕ) (w : Bounds) (x so_far : Term) (i j left t : ℕ) → i + 1 ≡ j → i + left ≡ t → ((b : List ℤ) → D b → IsWithin w (num b x)) → ((b : List ℤ) → D b → Limited w t) → Before n x → Before n so_far
    → ((b : List ℤ) → D b → num b so_far ≡ power (num b x) i) → Yields W D n (powers n w x so_far j left) (4 * left) (λ b. power (num b x) t)
yields_powers W D n w x so_far i j zero t ij it within small hx hs is =
    let same : i ≡ t = omega (arith, it) in
    yields_standing W D n so_far (λ b. power (num b x) t) hs (λ b d. is b d ∙ ap (power (num b x)) same)
yields_powers W D n w x so_far i j (suc left) t ij it within small hx hs is =
    let up : suc i ≡ j = omega (arith, ij) in
    let span : Bounds = kept (pow_ends w j) in
    let c : Out = integer_of_two n span IntTimes so_far x in
    let k : ℕ = n + made c.items in
    let u : List ℤ → ℤ = λ b. power (num b x) (suc i) in
    let E : List ℤ → Type 0 = λ b. D b × (num b c.term ≡ u b) in
    let v : List ℤ → ℤ = λ b. power (num b x) t in
    let near : (b : List ℤ) → D b → IsWithin span (u b) =
    λ b d.
    let inside : IsWithin (pow_ends w j) (u b) =
    subst (λ (y : ℤ). IsWithin (pow_ends w j) y) (sym (power-is (num b x) j) ∙ ap (power (num b x)) (sym up)) ((pow-IsImageHull w j (ordered w (num b x) (within b d))).holds (num b x) (within b d)) in
    kept_held (pow_ends w j) (pow_ends w j) (u b) (small b d j (omega (arith, ij)) (omega (arith, ij, it))) inside in
    let same : (b : List ℤ) → D b → num b so_far *ℤ num b x ≡ u b = λ b d. ap (λ (z : ℤ). z *ℤ num b x) (is b d) in
    let first : Yields W D n c 4 u =
    yields_as W D D n c 4 4 (λ b. num b so_far *ℤ num b x) u (λ b d. d) same (omega arith) (yields_product W D n span so_far x hs hx (λ b y d. subst (IsWithin span) (sym (same b d)) (near b d))) in
    yields_as W D D n (powers n w x so_far j (suc left)) (4 + 4 * left) (4 * suc left) v v (λ b d. d) (λ b d. refl) (omega arith)
    (yields_behind W D n u v c (λ m y. powers m w x y (j + 1) left) 4 (4 * left) first
    (yields_powers W E k w x c.term (suc i) (j + 1) left t (omega (arith, ij)) (omega (arith, it)) (λ b f. within b f.0) (λ b f. small b f.0) (before_more n k x (omega arith) hx) first.before (λ b f. f.1)))

-- the size of a power
abs_power : (x : ℤ) (k : ℕ) → unsigned_abs (int_pow x k) ≡ unsigned_abs x ^ k
abs_power x zero = sym (pow-zero (unsigned_abs x))
abs_power x (suc k) = unsigned_abs-mul (int_pow x k) x ∙ ap (λ (m : ℕ). m * unsigned_abs x) (abs_power x k) ∙ sym (pow-suc (unsigned_abs x) k)

size_negated : (z : ℤ) → unsigned_abs (neg_ℤ z) ≡ unsigned_abs z
size_negated (pos zero) = refl
size_negated (pos (suc k)) = refl
size_negated (negsuc k) = refl

size_within : (z : ℤ) (m : ℕ) → neg_ℤ (pos m) ≤ℤ z → z ≤ℤ pos m → unsigned_abs z ≤ m
size_within (pos k) m h g = omega (arith, ints, h, g)
size_within (negsuc k) m h g = omega (arith, ints, h, g)

small_size : (z : ℤ) → IsSmall z → unsigned_abs z ≤ magnitudes
small_size z s = size_within z magnitudes s.from s.to

size_small : (z : ℤ) (m : ℕ) → unsigned_abs z ≤ m → (neg_ℤ (pos m) ≤ℤ z) × (z ≤ℤ pos m)
size_small (pos k) m h = (omega (arith, ints, h), omega (arith, ints, h))
size_small (negsuc k) m h = (omega (arith, ints, h), omega (arith, ints, h))

-- the end that is furthest from 0
top : Bounds → ℤ
top w = int_max w.hi (neg_ℤ w.lo)

top_one : (w : Bounds) → (unsigned_abs (top w) ≡ unsigned_abs w.hi) ⊎ (unsigned_abs (top w) ≡ unsigned_abs w.lo)
unfolding top
top_one w = by (int_le w.hi (neg_ℤ w.lo)) refl
  where
    by : (t : Bool) → int_le w.hi (neg_ℤ w.lo) ≡ t → (unsigned_abs (top w) ≡ unsigned_abs w.hi) ⊎ (unsigned_abs (top w) ≡ unsigned_abs w.lo)
    by true e = let h = le_is w.hi (neg_ℤ w.lo) e in inr (ap unsigned_abs (the_lo h) ∙ size_negated w.lo) where
      the_lo : w.hi ≤ℤ neg_ℤ w.lo → int_max w.hi (neg_ℤ w.lo) ≡ neg_ℤ w.lo
      the_lo h = omega (arith, ints, clamps, h)
    by false e = inl (ap unsigned_abs the_hi) where
      the_hi : int_max w.hi (neg_ℤ w.lo) ≡ w.hi
      the_hi = omega (arith, ints, clamps, e)

top_power : (w : Bounds) (t : ℕ) (q : Bool) → AreSmall (raised_ends (if q then abs_ends w else w) t) → unsigned_abs (top w) ^ t ≤ magnitudes
unfolding top
top_power w t true s = subst (λ (m : ℕ). m ≤ magnitudes) (abs_power (top w) t) (small_size (int_pow (top w) t) s.hi)
top_power w t false s = elim (top_one w) [
  | inl e ↦ subst (λ (m : ℕ). m ≤ magnitudes) (abs_power w.hi t ∙ ap (λ (m : ℕ). m ^ t) (sym e)) (small_size (int_pow w.hi t) s.hi)
  | inr e ↦ subst (λ (m : ℕ). m ≤ magnitudes) (abs_power w.lo t ∙ ap (λ (m : ℕ). m ^ t) (sym e)) (small_size (int_pow w.lo t) s.lo)
]

lesser_power : (a b m t : ℕ) → a ≤ b → 1 ≤ m → m ≤ t → b ^ t ≤ magnitudes → a ^ m ≤ magnitudes
lesser_power a zero m t le one mt h = lowest m one
  where
    none : a ≡ 0
    none = omega arith

    lowest : (m : ℕ) → 1 ≤ m → a ^ m ≤ magnitudes
    lowest zero one = absurd (omega arith)
    lowest (suc k) one = subst (λ (z : ℕ). z ≤ magnitudes) (sym (pow-suc a k ∙ ap (λ (z : ℕ). a ^ k * z) none ∙ mul-zero (a ^ k))) (omega arith)
lesser_power a (suc b) m t le one mt h =
    let some : 0 < suc b = omega arith in
    let first : a ^ m ≤ suc b ^ m = pow-le-pow_left le m in
    let second : suc b ^ m ≤ suc b ^ t = pow-le-pow_right some mt in
    omega (arith, first, second, h)

raised_small : (c : Bounds) (b m t : ℕ) → unsigned_abs c.lo ≤ b → unsigned_abs c.hi ≤ b → 1 ≤ m → m ≤ t → b ^ t ≤ magnitudes → AreSmall (raised_ends c m)
raised_small c b m t lo hi one mt h =
    let low = size_small (int_pow c.lo m) magnitudes (subst (λ (z : ℕ). z ≤ magnitudes) (sym (abs_power c.lo m)) (lesser_power (unsigned_abs c.lo) b m t lo one mt h)) in
    let high = size_small (int_pow c.hi m) magnitudes (subst (λ (z : ℕ). z ≤ magnitudes) (sym (abs_power c.hi m)) (lesser_power (unsigned_abs c.hi) b m t hi one mt h)) in
    record { lo = record { from = low.0; to = low.1 }; hi = record { from = high.0; to = high.1 } }

-- both ends, of the numbers or of their absolute values, are at most as far from 0
base_sizes : (w : Bounds) (q : Bool) → w.lo ≤ℤ w.hi → (unsigned_abs (if q then abs_ends w else w).lo ≤ unsigned_abs (top w)) × (unsigned_abs (if q then abs_ends w else w).hi ≤ unsigned_abs (top w))
unfolding top
base_sizes w q o =
    let t = size_small (top w) (unsigned_abs (top w)) (omega arith) in
    let some : pos 0 ≤ℤ top w = omega (arith, ints, clamps, o) in
    by q t.0 t.1 some
  where
    by : (q : Bool) → neg_ℤ (pos (unsigned_abs (top w))) ≤ℤ top w → top w ≤ℤ pos (unsigned_abs (top w)) → pos 0 ≤ℤ top w
        → (unsigned_abs (if q then abs_ends w else w).lo ≤ unsigned_abs (top w)) × (unsigned_abs (if q then abs_ends w else w).hi ≤ unsigned_abs (top w))
    by true h g s = (
      size_within (abs_ends w).lo (unsigned_abs (top w)) (omega (arith, ints, clamps, o, g)) (omega (arith, ints, clamps, o, g, s)),
      omega arith,
    )
    by false h g s = (
      size_within w.lo (unsigned_abs (top w)) (omega (arith, ints, clamps, o, g)) (omega (arith, ints, clamps, o, g)),
      size_within w.hi (unsigned_abs (top w)) (omega (arith, ints, clamps, o, g)) (omega (arith, ints, clamps, o, g)),
    )

powers_limited : (w : Bounds) (t : ℕ) → w.lo ≤ℤ w.hi → AreSmall (pow_ends w t) → Limited w t
powers_limited w t o s m one mt =
    let sizes = base_sizes w (m % 2 == 0) o in
    small_limited (pow_ends w m) (raised_small (pow_base w m) (unsigned_abs (top w)) m t sizes.0 sizes.1 one mt (top_power w t (t % 2 == 0) s))

steps_are : (k : ℕ) → IsExponent (pos (suc k)) → steps_of (pos (suc k)) ≡ k
steps_are k h = by (int_le (pos k) (pos 63)) (le_met (pos k) (pos 63) (omega (arith, ints, h.greatest)))
  where
    by : (t : Bool) → t ≡ true → (if t then k else 0) ≡ k
    by true e = refl
    by false e = absurd (true≢false (sym e))

pub yields_power : (W D : List ℤ → Type 0) (n : ℕ) (base : Operand) (e : Term) (k : ℤ) (w : Bounds) → Before n base.term → IsExponent k → e ≡ Int k → ((b : List ℤ) → D b → IsHeld base.span (num b base.term))
    → limited (pow_ends base.span (exponent_of k)) ≡ Ok w → Yields W D n (power_of n base e) 252 (λ b. power (num b base.term) (exponent_of k))
yields_power W D n base e (pos zero) w before h is held own = absurd (omega (arith, ints, h.least))
yields_power W D n base e (negsuc k) w before h is held own = absurd (omega (arith, ints, h.least))
yields_power W D n base e (pos (suc k)) w before h is held own =
    let steps : k ≡ steps_to e = sym (steps_are k h) ∙ ap steps_to (sym is) in
    let v : List ℤ → ℤ = λ b. power (num b base.term) (suc k) in
    let few : 4 * k ≤ 252 = omega (arith, ints, h.greatest) in
    yields_as W D D n (power_of n base e) (4 * k) 252 v v (λ b d. d) (λ b d. refl) few
    (subst (λ (left : ℕ). Yields W D n (powers n base.span base.term base.term 2 left) (4 * k) v) steps
    (yields_powers W D n base.span base.term base.term 1 2 k (suc k) (omega arith) (omega arith) (λ b d. (held b d).within)
    (λ b d. powers_limited base.span (suc k) (ordered base.span (num b base.term) (held b d).within) (limited-is (pow_ends base.span (suc k)) w own).1) before before (λ b d. omega (arith, ints))))
