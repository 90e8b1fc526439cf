use Rattle.std.proofs.Common.{◌≡◌, ◌≤◌, ◌++◌, drop, length}
use Rattle.lo_tables.specs.Table.{cells}
use Rattle.lo_tables.proofs.table.cells_of.Given as goal

abbrev pub invariant-loop-i : goal.invariant-loop-i
invariant-loop-i l = record {
  value : l.all ++ cells l.i (drop l.i l.list) (drop l.i l.tuple) ≡ cells 0 l.list l.tuple;
  few : length l.all ≤ l.i;
}
