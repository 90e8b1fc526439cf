use Rattle.std.proofs.Common.{◌≡◌, ◌*◌, ◌≤◌, drop}
use Rattle.std.specs.List.{AllByRecursion}
use Rattle.xs_model.specs.Sound.{IsSize, cell_count}
use Rattle.xs_words.proofs.cells.cell_total.Given as goal

abbrev pub invariant-loop-size : goal.invariant-loop-size
invariant-loop-size l = record {
  some : 1 ≤ l.count;
  sizes : AllByRecursion IsSize (drop l.size-index l.sizes);
  rest : l.count * cell_count (drop l.size-index l.sizes) ≡ cell_count l.sizes;
}
