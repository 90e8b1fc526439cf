use Rattle.std.proofs.Common.{◌≡◌, drop, length}
use Rattle.std.specs.List.{AllByRecursion}
use Rattle.xs_model.specs.Instance.{rows_of}
use Rattle.xs_model.specs.Lists.{column}
use Rattle.xs_testing.specs.Rows.{AreBelow, HasPlace}
use Rattle.xs_compared.specs.Tests.{is_lower}
use Rattle.xs_compared.proofs.orders.is_column_lower.Given as goal

abbrev pub invariant-loop-row : goal.invariant-loop-row
invariant-loop-row l = record {
  so_far : is_lower (column (rows_of l.a (drop l.row-index l.rows)) l.first) (column (rows_of l.a (drop l.row-index l.rows)) l.second) ≡ is_lower (column (rows_of l.a l.rows) l.first) (column (rows_of l.a l.rows) l.second);
  first : AllByRecursion (HasPlace l.first) (drop l.row-index l.rows);
  second : AllByRecursion (HasPlace l.second) (drop l.row-index l.rows);
  valued : AllByRecursion (AreBelow (length l.a)) (drop l.row-index l.rows);
}
