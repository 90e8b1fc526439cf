use Rattle.std.proofs.Common.{◌≡◌, ◌≤◌, [], drop, length}
use Rattle.std.specs.List.{AllByRecursion, list_all}
use Rattle.xs_forms.specs.Room.{longest_row}
use Rattle.xs_model.specs.Instance.{rows_of}
use Rattle.xs_testing.specs.Rows.{AreBelow}
use Rattle.xs_compared.specs.Tests.{are_different}
use Rattle.xs_compared.proofs.different.are_rows_different.Given as goal

abbrev pub invariant-loop-row : goal.invariant-loop-row
invariant-loop-row l = record {
  same : l.scratch ≡ l.initial.scratch;
  so_far : list_all (are_different []) (rows_of l.a (drop l.row-index l.rows)) ≡ list_all (are_different []) (rows_of l.a l.rows);
  valued : AllByRecursion (AreBelow (length l.a)) (drop l.row-index l.rows);
  room : longest_row (drop l.row-index l.rows) ≤ l.scratch.most;
}
