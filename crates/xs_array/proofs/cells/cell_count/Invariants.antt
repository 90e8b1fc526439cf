use Rattle.std.proofs.Common.{◌≡◌, ◌*◌, ◌≤◌, true, drop}
use Rattle.xs_model.specs.Sound.{cell_count, most_cells}
use Rattle.xs_array.specs.Cells.{are_positive}
use Rattle.xs_array.proofs.cells.cell_count.Given as goal

abbrev pub invariant-loop-size : goal.invariant-loop-size
invariant-loop-size l = record {
  some : 1 ≤ l.count;
  few : l.count ≤ most_cells;
  positive : are_positive (drop l.size-index l.sizes) ≡ true;
  rest : l.count * cell_count (drop l.size-index l.sizes) ≡ cell_count l.sizes;
}
