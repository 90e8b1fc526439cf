-- Tasks stay small where the magnitude of the constraint is at most the greatest, and are not negative where their bounds are
-- not.
use Rattle.std.proofs.Common.{◌≡◌, ℕ, zero, suc, ◌+◌, ◌≤◌, ℤ, pos, negsuc, ◌≤ℤ◌, nat_abs, Bool, true, ◌&&◌, List, [], ◌∷◌, map, Option, arith, unsigned_abs}
use Rattle.std.specs.Prelude.{int_le}
use Rattle.std.specs.List.{AllByRecursion, list_all}
use Rattle.std.proofs.lemmas.Bool.{and_parts}
use Rattle.std.proofs.lemmas.Int.{ints}
use Rattle.std.proofs.Math.Nat.{le-max_left, le-max_right}
use Rattle.xf_num.specs.Span.{Bounds, IsWithin, magnitude_of}
use Rattle.xs_laws.proofs.Cumulative.{le_says}
use Rattle.xs_laws.specs.Peaks.{AreNatural}
use Rattle.xs_model.specs.declared.instance.Constraint.TheVariants.{Cumulative}
use Rattle.xs_model.specs.declared.term.Cond.{Cond}
use Rattle.xs_model.specs.declared.term.Term.{Term}
use Rattle.xs_model.specs.declared.term.Term.TheVariants.{Int, Var}
use Rattle.xs_model.specs.Accepted.{IsMeasured}
use Rattle.xs_model.specs.Bounds.{operand}
use Rattle.xs_model.specs.Conditions.{value_of}
use Rattle.xs_model.specs.Fields.{Variable, item_of}
use Rattle.xs_model.specs.Formed.{total}
use Rattle.xs_model.specs.Instance.{term_values, values}
use Rattle.xs_model.specs.Magnitude.{are_not_negative, item_magnitude, term_bounds}
use Rattle.xs_model.specs.Sound.{magnitudes}
use Rattle.xs_model.specs.Spans.{AreWithin}
use Rattle.xs_model.specs.Value.{at}
use Rattle.xs_tasks.specs.Tested.{size_of}

high_end : (n : ℕ) (y : ℤ) → pos n ≤ℤ y → n ≤ unsigned_abs y
high_end n (pos m) h = omega (arith, ints, h)
high_end n (negsuc m) h = absurd (omega (arith, ints, h))

low_end : (n : ℕ) (y : ℤ) → y ≤ℤ negsuc n → suc n ≤ unsigned_abs y
low_end n (pos m) h = absurd (omega (arith, ints, h))
low_end n (negsuc m) h = omega (arith, ints, h)

within_size : (b : Bounds) (x : ℤ) → IsWithin b x → nat_abs x ≤ magnitude_of b
within_size b (pos n) h = let e = high_end n b.hi h.to in let m = le-max_right (unsigned_abs b.lo) (unsigned_abs b.hi) in omega (arith, e, m)
within_size b (negsuc n) h = let e = low_end n b.lo h.from in let m = le-max_left (unsigned_abs b.lo) (unsigned_abs b.hi) in omega (arith, e, m)

value_size : (spans : List Bounds) (a : List ℤ) (v : ℕ) → AreWithin spans a → nat_abs (at a v) ≤ magnitude_of (operand spans v)
value_size [] [] v h = omega arith
value_size [] (x ∷ a) v h = absurd h
value_size (b ∷ spans) [] v h = absurd h
value_size (b ∷ spans) (x ∷ a) zero h = within_size b x h.0
value_size (b ∷ spans) (x ∷ a) (suc v) h = value_size spans a v h.1

value_above : (spans : List Bounds) (a : List ℤ) (v : ℕ) → AreWithin spans a → (operand spans v).lo ≤ℤ at a v
value_above [] [] v h = omega (arith, ints)
value_above [] (x ∷ a) v h = absurd h
value_above (b ∷ spans) [] v h = absurd h
value_above (b ∷ spans) (x ∷ a) zero h = h.0.from
value_above (b ∷ spans) (x ∷ a) (suc v) h = value_above spans a v h.1

module _ (spans : List Bounds) (a : List ℤ) (within : AreWithin spans a) where
  term_size : (t : Term) → nat_abs (value_of a t) ≤ item_magnitude spans (item_of t)
  term_size (Int z) = omega arith
  term_size (Var v) = value_size spans a v within

  values_size : (vs : List ℕ) → size_of (values a vs) ≤ total (map (item_magnitude spans) (map Variable vs))
  values_size [] = omega arith
  values_size (v ∷ vs) = let here = value_size spans a v within in let rest = values_size vs in omega (arith, here, rest)

  terms_size : (ts : List Term) → size_of (term_values a ts) ≤ total (map (item_magnitude spans) (map item_of ts))
  terms_size [] = omega arith
  terms_size (t ∷ ts) = let here = term_size t in let rest = terms_size ts in omega (arith, here, rest)

  pub tasks_small : (vs : List ℕ) (ls hs : List Term) (es : Option (List ℕ)) (x : Cond) → IsMeasured spans (Cumulative vs ls hs es x) → (size_of (values a vs) + size_of (term_values a ls)) + size_of (term_values a hs) ≤ magnitudes
  tasks_small vs ls hs es x h = let o = values_size vs in let l = terms_size ls in let t = terms_size hs in omega (arith, o, l, t, h)

  term_above : (t : Term) → (term_bounds spans t).lo ≤ℤ value_of a t
  term_above (Int z) = omega (arith, ints)
  term_above (Var v) = value_above spans a v within

  pub terms_natural : (ts : List Term) → are_not_negative spans ts ≡ true → AreNatural (term_values a ts)
  terms_natural [] h = tt
  terms_natural (t ∷ ts) h =
      let r = and_parts (int_le (pos 0) (term_bounds spans t).lo) (are_not_negative spans ts) h in
      let low = le_says (pos 0) (term_bounds spans t).lo r.0 in
      let above = term_above t in
      (omega (arith, ints, low, above), terms_natural ts r.1)
