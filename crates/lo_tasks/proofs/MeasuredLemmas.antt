-- What the magnitude of a constraint says of its terms: their bounds are small, and so are those of their sums.
use Rattle.std.proofs.Common.{ℕ, zero, suc, ◌+◌, ◌<◌, ◌≤◌, ℤ, pos, negsuc, neg_ℤ, ◌≤ℤ◌, ◌+ℤ◌, ◌-ℤ◌, nat_abs, unsigned_abs, List, [], ◌∷◌, length, map, arith}
use Rattle.std.specs.List.{AllByRecursion}
use Rattle.std.proofs.lemmas.Int.{ints, clamps}
use Rattle.std.proofs.Math.Nat.{le-max_left, le-max_right}
use Rattle.fz_model.specs.Limits.{IsSmall, limit}
use Rattle.fz_model.specs.Sound.{IsRange}
use Rattle.lo_emit.specs.Conditions.{term_of}
use Rattle.lo_emit.specs.Emitted.{truth_values}
use Rattle.lo_rules.specs.Conditions.{HasNeighbours}
use Rattle.lo_tasks.specs.Cumulative.{beside, end_bounds}
use Rattle.lo_tasks.specs.Laws.{AreOrdered}
use Rattle.lo_tasks.proofs.EndLemmas.{IsStretch, IsEnded}
use Rattle.xf_num.specs.Span.{Bounds, magnitude_of, add_ends, mul_ends}
use Rattle.xs_model.specs.declared.term.Term.{Term as Operand}
use Rattle.xs_model.specs.declared.term.Term.TheVariants as operand
use Rattle.xs_model.specs.Bounds.{operand as bounds_at}
use Rattle.xs_model.specs.Fields.{Variable, item_of}
use Rattle.xs_model.specs.Formed.{IsFormedItem, total}
use Rattle.xs_model.specs.Magnitude.{item_magnitude, term_bounds}

-- a term over the variables of these bounds, with bounds that are small
pub record IsOperand (ss : List Bounds) (t : Operand) : Type 0 where
  pub inside : IsFormedItem (length ss) (item_of t)
  pub range : IsRange (term_bounds ss t)

-- a start and a length, with a sum whose bounds are small
pub record IsMeasuredStretch (ss : List Bounds) (p : ℕ × Operand) : Type 0 where
  pub stretch : IsStretch ss p
  pub range : IsRange (end_bounds ss p.0 p.1)

high : (z : ℤ) (k : ℕ) → unsigned_abs z ≤ k → z ≤ℤ pos k
high (pos n) k h = omega (arith, ints, h)
high (negsuc n) k h = omega (arith, ints)

low : (z : ℤ) (k : ℕ) → unsigned_abs z ≤ k → neg_ℤ (pos k) ≤ℤ z
low (pos n) k h = omega (arith, ints)
low (negsuc n) k h = omega (arith, ints, h)

lowest : (s : Bounds) → neg_ℤ (pos (magnitude_of s)) ≤ℤ s.lo
lowest s = low s.lo (magnitude_of s) (le-max_left (unsigned_abs s.lo) (unsigned_abs s.hi))

highest : (s : Bounds) → s.hi ≤ℤ pos (magnitude_of s)
highest s = high s.hi (magnitude_of s) (le-max_right (unsigned_abs s.lo) (unsigned_abs s.hi))

-- the bounds of a term lie within the magnitude of its item
pub ends_within : (ss : List Bounds) (t : Operand) → (neg_ℤ (pos (item_magnitude ss (item_of t))) ≤ℤ (term_bounds ss t).lo) × ((term_bounds ss t).hi ≤ℤ pos (item_magnitude ss (item_of t)))
ends_within ss (operand.Int z) = (int_low z, int_high z)
  where
    int_low : (z : ℤ) → neg_ℤ (pos (nat_abs z)) ≤ℤ z
    int_low (pos n) = omega (arith, ints)
    int_low (negsuc n) = omega (arith, ints)

    int_high : (z : ℤ) → z ≤ℤ pos (nat_abs z)
    int_high (pos n) = omega (arith, ints)
    int_high (negsuc n) = omega (arith, ints)
ends_within ss (operand.Var v) = (lowest (bounds_at ss v), highest (bounds_at ss v))

variable_ordered : (ss : List Bounds) (v : ℕ) → AreOrdered ss → v < length ss → (bounds_at ss v).lo ≤ℤ (bounds_at ss v).hi
variable_ordered [] v o lt = absurd (omega (arith, lt))
variable_ordered (s ∷ ss) zero o lt = o.0
variable_ordered (s ∷ ss) (suc v) o lt = variable_ordered ss v o.1 (omega (arith, lt))

term_ordered : (ss : List Bounds) (t : Operand) → AreOrdered ss → IsFormedItem (length ss) (item_of t) → (term_bounds ss t).lo ≤ℤ (term_bounds ss t).hi
term_ordered ss (operand.Int z) o h = omega (arith, ints)
term_ordered ss (operand.Var v) o h = variable_ordered ss v o h

term_range : (ss : List Bounds) (t : Operand) → AreOrdered ss → IsFormedItem (length ss) (item_of t) → item_magnitude ss (item_of t) ≤ limit → IsRange (term_bounds ss t)
term_range ss t o h le =
    let e = ends_within ss t in
    let from = e.0 in
    let to = e.1 in
    record { ordered = term_ordered ss t o h; small = record { from = omega (arith, ints, from, le); to = omega (arith, ints, to, le) } }

sum_range : (s t : Bounds) (k m : ℕ) → neg_ℤ (pos k) ≤ℤ s.lo → s.hi ≤ℤ pos k → neg_ℤ (pos m) ≤ℤ t.lo → t.hi ≤ℤ pos m → s.lo ≤ℤ s.hi → t.lo ≤ℤ t.hi → k + m ≤ limit → IsRange (add_ends s t)
sum_range s t k m a b c d e f le = record { ordered = omega (arith, ints, e, f); small = record { from = omega (arith, ints, a, c, le); to = omega (arith, ints, b, d, le) } }

-- a product with 0 or 1
pub product_range : (s : Bounds) → IsRange s → IsRange (mul_ends s truth_values)
product_range s h = record {
  ordered = omega (arith, ints, clamps, h.ordered);
  small = record { from = omega (arith, ints, clamps, h.ordered, h.small.from, h.small.to); to = omega (arith, ints, clamps, h.ordered, h.small.from, h.small.to) };
}

module _ (ss : List Bounds) (ordered : AreOrdered ss) where
  pub operands_in : (ts : List Operand) → AllByRecursion (IsFormedItem (length ss)) (map item_of ts) → total (map (item_magnitude ss) (map item_of ts)) ≤ limit → AllByRecursion (IsOperand ss) ts
  operands_in [] h le = tt
  operands_in (t ∷ ts) h le = (record { inside = h.0; range = term_range ss t ordered h.0 (omega (arith, le)) }, operands_in ts h.1 (omega (arith, le)))

  pub stretches_in : (origins : List ℕ) (lengths : List Operand) → AllByRecursion (IsFormedItem (length ss)) (map Variable origins) → AllByRecursion (IsFormedItem (length ss)) (map item_of lengths)
      → total (map (item_magnitude ss) (map Variable origins)) + total (map (item_magnitude ss) (map item_of lengths)) ≤ limit → AllByRecursion (IsMeasuredStretch ss) (beside origins lengths)
  stretches_in [] ls h k le = tt
  stretches_in (s ∷ os) [] h k le = tt
  stretches_in (s ∷ os) (l ∷ ls) h k le =
      let a = ends_within ss (operand.Var s) in
      let b = ends_within ss l in (
        record {
          stretch = record { start = h.0; long = k.0 };
          range =
              sum_range (bounds_at ss s) (term_bounds ss l) (item_magnitude ss (Variable s)) (item_magnitude ss (item_of l)) a.0 a.1 b.0 b.1 (variable_ordered ss s ordered h.0) (term_ordered ss l ordered k.0) (omega (arith, le));
        },
        stretches_in os ls h.1 k.1 (omega (arith, le)),
      )

-- the members without their magnitudes
pub stretches_of : (ss : List Bounds) (ps : List (ℕ × Operand)) → AllByRecursion (IsMeasuredStretch ss) ps → AllByRecursion (IsStretch ss) ps
stretches_of ss [] h = tt
stretches_of ss (p ∷ ps) h = (h.0.stretch, stretches_of ss ps h.1)

pub ended_in : (ss : List Bounds) (origins : List ℕ) (lengths : List Operand) (ends : List ℕ) → AllByRecursion (IsFormedItem (length ss)) (map Variable origins) → AllByRecursion (IsFormedItem (length ss)) (map item_of lengths)
    → AllByRecursion (IsFormedItem (length ss)) (map Variable ends) → AllByRecursion (IsEnded ss) (beside (beside origins lengths) ends)
ended_in ss [] ls es h k j = tt
ended_in ss (s ∷ os) [] es h k j = tt
ended_in ss (s ∷ os) (l ∷ ls) [] h k j = tt
ended_in ss (s ∷ os) (l ∷ ls) (e ∷ es) h k j = (record { stretch = record { start = h.0; long = k.0 }; end = j.0 }, ended_in ss os ls es h.1 k.1 j.1)

-- an integer that is less than the greatest
pub has_neighbours : (ss : List Bounds) (u : Operand) → item_magnitude ss (item_of u) + 1 ≤ limit → HasNeighbours (term_of u)
has_neighbours ss (operand.Int z) le = neighbours z le
  where
    neighbours : (z : ℤ) → nat_abs z + 1 ≤ limit → IsSmall (record { lo = z -ℤ pos 1; hi = z +ℤ pos 1 })
    neighbours (pos n) le = record { from = omega (arith, ints, le); to = omega (arith, ints, le) }
    neighbours (negsuc n) le = record { from = omega (arith, ints, le); to = omega (arith, ints, le) }
has_neighbours ss (operand.Var v) le = tt
