use Rattle.std.proofs.Common.{◌≡◌, ◌+◌, ◌++◌, map, drop, is_some}
use Rattle.xs_model.specs.Outline.{number_cells, defined_count}
use Rattle.xs_model.proofs.names.number_cells.Given as goal

abbrev pub invariant-loop-cell : goal.invariant-loop-cell
invariant-loop-cell l = record {
  numbers : l.numbers ++ number_cells l.next (map is_some (drop l.cell-index l.cells)) ≡ number_cells l.first (map is_some l.cells);
  next : l.next + defined_count (map is_some (drop l.cell-index l.cells)) ≡ l.first + defined_count (map is_some l.cells);
}
