-- Values within the bounds of the variables: those of terms, sums and products.
use Rattle.std.proofs.Common.{◌≡◌, ℕ, zero, suc, ◌<◌, ◌≤◌, ℤ, pos, ◌+ℤ◌, ◌*ℤ◌, Bool, true, false, List, [], ◌∷◌, ◌++◌, length, map, take, refl, ap, sym, subst, arith}
use Rattle.std.specs.Prelude.{int_le}
use Rattle.std.specs.List.{AllByRecursion}
use Rattle.std.proofs.lemmas.Int.{ints, clamps}
use Rattle.fz_model.specs.Meaning.{truth}
use Rattle.lo_emit.specs.Emitted.{truth_values}
use Rattle.lo_rules.proofs.Tests.{both_true, le_is}
use Rattle.xf_num.specs.Span.{Bounds, IsWithin, add_ends, mul_ends}
use Rattle.xs_laws.specs.Peaks.{AreNatural}
use Rattle.xs_model.specs.declared.term.Term.{Term as Operand}
use Rattle.xs_model.specs.declared.term.Term.TheVariants as operand
use Rattle.xs_model.specs.Bounds.{operand as bounds_at}
use Rattle.xs_model.specs.Conditions.{value_of}
use Rattle.xs_model.specs.Fields.{item_of}
use Rattle.xs_model.specs.Formed.{IsFormedItem}
use Rattle.xs_model.specs.Instance.{term_values}
use Rattle.xs_model.specs.Magnitude.{term_bounds, are_not_negative}
use Rattle.xs_model.specs.Spans.{AreWithin, BeginsWithin}
use Rattle.xs_model.specs.Value.{at}

front_within : (ss : List Bounds) (b : List ℤ) (v : ℕ) → BeginsWithin ss b → v < length ss → IsWithin (bounds_at ss v) (at b v)
front_within [] b v w lt = absurd (omega (arith, lt))
front_within (s ∷ ss) [] v w lt = absurd w
front_within (s ∷ ss) (x ∷ b) zero w lt = w.0
front_within (s ∷ ss) (x ∷ b) (suc v) w lt = front_within ss b v w.1 (omega (arith, lt))

pub term_within : (ss : List Bounds) (b : List ℤ) (t : Operand) → BeginsWithin ss b → IsFormedItem (length ss) (item_of t) → IsWithin (term_bounds ss t) (value_of b t)
term_within ss b (operand.Int z) w h = record { from = omega (arith, ints); to = omega (arith, ints) }
term_within ss b (operand.Var v) w h = front_within ss b v w h

-- a sum, and a product with 0 or 1

pub sum_within : (s t : Bounds) (x y z : ℤ) → IsWithin s x → IsWithin t y → z ≡ x +ℤ y → IsWithin (add_ends s t) z
sum_within s t x y z h k is = record { from = omega (arith, ints, h.from, k.from, is); to = omega (arith, ints, h.to, k.to, is) }

pub product_within : (s : Bounds) (x : ℤ) (t : Bool) → IsWithin s x → IsWithin (mul_ends s truth_values) (x *ℤ truth t)
product_within s x true h = record { from = omega (arith, ints, clamps, h.from, h.to); to = omega (arith, ints, clamps, h.from, h.to) }
product_within s x false h = record { from = omega (arith, ints, clamps, h.from, h.to); to = omega (arith, ints, clamps, h.from, h.to) }

-- terms that are never negative

pub all_natural : (ss : List Bounds) (b : List ℤ) (ts : List Operand) → BeginsWithin ss b → AllByRecursion (IsFormedItem (length ss)) (map item_of ts) → are_not_negative ss ts ≡ true → AreNatural (term_values b ts)
all_natural ss b [] w h natural = tt
all_natural ss b (t ∷ ts) w h natural =
    let parts = both_true (int_le (pos 0) (term_bounds ss t).lo) (are_not_negative ss ts) natural in
    let low = le_is (pos 0) (term_bounds ss t).lo parts.0 in
    let inside = (term_within ss b t w h.0).from in
    (omega (arith, ints, low, inside), all_natural ss b ts w h.1 parts.1)

-- what is known of the values before stays so

take_front : (k : ℕ) (a c : List ℤ) → k ≤ length a → take k (a ++ c) ≡ take k a
take_front zero a c h = refl
take_front (suc k) [] c h = absurd (omega (arith, h))
take_front (suc k) (x ∷ a) c h = ap (λ (xs : List ℤ). x ∷ xs) (take_front k a c (omega (arith, h)))

pub within_stays : (ss : List Bounds) (n : ℕ) → length ss ≤ n → (a : List ℤ) → length a ≡ n → BeginsWithin ss a → (d : List ℤ) → BeginsWithin ss (a ++ d)
within_stays ss n le a len w d = subst (AreWithin ss) (sym (take_front (length ss) a d (omega (arith, le, len)))) w
