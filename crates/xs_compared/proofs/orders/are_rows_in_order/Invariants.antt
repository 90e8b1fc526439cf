use Rattle.std.proofs.Common.{◌≡◌, length}
use Rattle.std.specs.List.{AllByRecursion}
use Rattle.xs_model.specs.Instance.{rows_of}
use Rattle.xs_testing.specs.Rows.{AreBelow}
use Rattle.xs_compared.specs.Tests.{all_next, in_order}
use Rattle.xs_compared.proofs.orders.are_rows_in_order.Given as goal

abbrev pub invariant-loop-list : goal.invariant-loop-list
invariant-loop-list l = record {
  so_far : all_next (in_order l.rel) (rows_of l.a l.rest) ≡ all_next (in_order l.rel) (rows_of l.a l.lists);
  valued : AllByRecursion (AreBelow (length l.a)) l.rest;
}

abbrev pub decreases-loop-list : goal.decreases-loop-list
decreases-loop-list l = length l.rest
