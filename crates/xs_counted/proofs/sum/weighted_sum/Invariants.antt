use Rattle.std.proofs.Common.{◌≡◌, ◌≤◌, ◌+◌, ◌+ℤ◌, nat_abs, length, map}
use Rattle.std.specs.List.{AllByRecursion}
use Rattle.xs_model.specs.Counting.{weighted_sum}
use Rattle.xs_model.specs.Fields.{item_of}
use Rattle.xs_model.specs.Formed.{IsFormedItem}
use Rattle.xs_model.specs.Instance.{term_values, values}
use Rattle.xs_model.specs.Sound.{magnitudes}
use Rattle.xs_testing.specs.Rows.{AreBelow}
use Rattle.xs_counted.specs.Tests.{size_of_products}
use Rattle.xs_counted.proofs.sum.weighted_sum.Given as goal

abbrev pub invariant-loop-factor : goal.invariant-loop-factor
invariant-loop-factor l = record {
  so_far : l.sum.value +ℤ weighted_sum (term_values l.a l.factors) (values l.a l.variables) ≡ weighted_sum (term_values l.a l.coeffs) (values l.a l.list);
  small : nat_abs l.sum.value + size_of_products (term_values l.a l.factors) (values l.a l.variables) ≤ magnitudes;
  formed : AllByRecursion (IsFormedItem (length l.a)) (map item_of l.factors);
  valued : AreBelow (length l.a) l.variables;
}

abbrev pub decreases-loop-factor : goal.decreases-loop-factor
decreases-loop-factor l = length l.factors
