use Rattle.std.proofs.Common.{◌≡◌, ◌≤◌, []}
use Rattle.xs_model.specs.Instance.{rows_of}
use Rattle.xs_model.specs.Lists.{column, width}
use Rattle.xs_compared.specs.Tests.{all_below, are_different}
use Rattle.xs_compared.proofs.different.are_columns_different.Given as goal

abbrev pub invariant-loop-left : goal.invariant-loop-left
invariant-loop-left l = record {
  same : l.scratch ≡ l.initial.scratch;
  so_far : all_below (λ j. are_different [] (column (rows_of l.a l.rows) j)) l.left ≡ all_below (λ j. are_different [] (column (rows_of l.a l.rows) j)) (width l.rows);
  fits : l.left ≤ width l.rows;
}

abbrev pub decreases-loop-left : goal.decreases-loop-left
decreases-loop-left l = l.left
