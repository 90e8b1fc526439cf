use Rattle.std.proofs.Common.{◌≡◌, ◌≤◌, ◌-◌, suc}
use Rattle.xs_model.specs.Instance.{rows_of}
use Rattle.xs_model.specs.Lists.{column, width}
use Rattle.xs_compared.specs.Tests.{all_below, in_order}
use Rattle.xs_compared.proofs.orders.are_columns_in_order.Given as goal

abbrev pub invariant-loop-left : goal.invariant-loop-left
invariant-loop-left l = record {
  so_far : all_below (λ j. in_order l.rel (column (rows_of l.a l.rows) j) (column (rows_of l.a l.rows) (suc j))) l.left
      ≡ all_below (λ j. in_order l.rel (column (rows_of l.a l.rows) j) (column (rows_of l.a l.rows) (suc j))) (width l.rows - 1);
  fits : l.left ≤ width l.rows - 1;
}

abbrev pub decreases-loop-left : goal.decreases-loop-left
decreases-loop-left l = l.left
