use Rattle.std.proofs.Common.{◌≡◌, ◌+◌, ◌≤◌, drop, map, sum}
use Rattle.xs_var.specs.VarDomain.{values_in}
use Rattle.xs_array.proofs.cells.count_values.Given as goal

abbrev pub invariant-loop-cell : goal.invariant-loop-cell
invariant-loop-cell l = record {
  within : l.count ≤ l.left;
  rest : l.count + sum (map values_in (drop l.cell-index l.cells)) ≡ sum (map values_in l.cells);
}
