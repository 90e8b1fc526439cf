use Rattle.std.proofs.Common.{◌≡◌, ◌<◌, ◌≤◌, ◌+◌, ◌++◌, drop, length}
use Rattle.std.specs.List.{AllByRecursion}
use Rattle.xs_forms.specs.Room.{with_values}
use Rattle.xs_model.specs.Instance.{rows_of}
use Rattle.xs_model.specs.Lists.{column}
use Rattle.xs_testing.specs.Rows.{AreBelow, HasPlace}
use Rattle.xs_testing.proofs.put.put_column.Given as goal

abbrev pub invariant-loop-row : goal.invariant-loop-row
invariant-loop-row l = record {
  same : l.scratch ≡ with_values l.initial.scratch l.scratch.values;
  so_far : l.scratch.values ++ column (rows_of l.a (drop l.row-index l.rows)) l.place ≡ column (rows_of l.a l.rows) l.place;
  place : AllByRecursion (HasPlace l.place) (drop l.row-index l.rows);
  valued : AllByRecursion (AreBelow (length l.a)) (drop l.row-index l.rows);
  room : length l.scratch.values + length (drop l.row-index l.rows) ≤ l.scratch.most;
}
