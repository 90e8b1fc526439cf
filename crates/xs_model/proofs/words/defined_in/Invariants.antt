use Rattle.std.proofs.Common.{◌≡◌, ◌+◌, ◌≤◌, drop, length}
use Rattle.xs_model.specs.Names.{defined}
use Rattle.xs_model.proofs.words.defined_in.Given as goal

abbrev pub invariant-loop-cell : goal.invariant-loop-cell
invariant-loop-cell l = record {
  counted : l.count + length (defined (drop l.cell-index l.cells)) ≡ length (defined l.cells);
  few : l.count ≤ l.cell-index;
}
