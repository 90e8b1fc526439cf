use Rattle.std.proofs.Common.{◌≡◌, drop, length}
use Rattle.xs_fields.specs.Cells.{are_inside}
use Rattle.xs_fields.proofs.cells.are_inside.Given as goal

abbrev pub invariant-loop-i : goal.invariant-loop-i
invariant-loop-i l = record {
  same : length l.sizes ≡ length l.brackets;
  rest : are_inside (drop l.i l.sizes) (drop l.i l.brackets) ≡ are_inside l.sizes l.brackets;
}
