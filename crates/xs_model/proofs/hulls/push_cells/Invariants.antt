use Rattle.std.proofs.Common.{◌≡◌, ◌++◌, map, drop}
use Rattle.xs_model.specs.Names.{defined}
use Rattle.xs_model.specs.Spans.{span_in}
use Rattle.xs_model.proofs.hulls.push_cells.Given as goal

abbrev pub invariant-loop-cell : goal.invariant-loop-cell
invariant-loop-cell l = l.spans ++ map span_in (defined (drop l.cell-index l.cells)) ≡ l.initial.spans ++ map span_in (defined l.cells)
