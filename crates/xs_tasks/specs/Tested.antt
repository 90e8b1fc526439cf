-- What the test of a `cumulative` asks, and the tests that it makes (XCSP3-core, "Constraint cumulative").
use Rattle.std.specs.Prelude.{ℕ, ℤ, ◌+ℤ◌, nat_abs, List, [], ◌∷◌, map, Bool, true, false, ◌&&◌, Option, None, Some}
use Rattle.std.specs.Ordering.{int_eq}
use Rattle.xf_num.specs.Span.{Bounds}
use Rattle.xs_model.specs.declared.instance.Constraint.{Constraint}
use Rattle.xs_model.specs.declared.instance.Constraint.TheVariants.{Cumulative}
use Rattle.xs_model.specs.declared.term.Term.{Term}
use Rattle.xs_model.specs.Accepted.{IsFaultless, IsMeasured}
use Rattle.xs_model.specs.Formed.{total}
use Rattle.xs_model.specs.Instance.{term_values, values}
use Rattle.xs_model.specs.Spans.{AreWithin}

abbrev pub is_cumulative : Constraint → Bool
is_cumulative (Cumulative origins lengths heights ends cond) = true
is_cumulative c = false

-- the values lie within bounds within which the constraint is not at fault: no length or height may be negative, and the
-- magnitude is at most the greatest
pub record IsJudgedAt (a : List ℤ) (c : Constraint) : Type 0 where
  pub spans : List Bounds
  pub within : AreWithin spans a
  pub faultless : IsFaultless spans c
  pub measured : IsMeasured spans c

-- the absolute values, summed
abbrev pub size_of : List ℤ → ℕ
size_of xs = total (map nat_abs xs)

-- each end is its start plus its length
abbrev pub are_ends : List ℤ → List ℤ → List ℤ → Bool
are_ends [] [] [] = true
are_ends (s ∷ ss) (l ∷ ls) (e ∷ es) = int_eq e (s +ℤ l) && are_ends ss ls es
are_ends ss ls es = false

-- the same, where ends are given
abbrev pub ends_agree : List ℤ → List ℕ → List Term → Option (List ℕ) → Bool
ends_agree a origins lengths None = true
ends_agree a origins lengths (Some ends) = are_ends (values a origins) (term_values a lengths) (values a ends)
