use Rattle.std.proofs.Common.{drop}
use Rattle.xs_fields.specs.Cells.{covered_places}
use Rattle.xs_fields.proofs.CellLemmas.{Standing}
use Rattle.xs_fields.proofs.cells.covered.Given as goal

abbrev pub invariant-loop-i : goal.invariant-loop-i
invariant-loop-i l = Standing l.places (drop l.i l.sizes) (drop l.i l.brackets) (covered_places l.sizes l.brackets)
