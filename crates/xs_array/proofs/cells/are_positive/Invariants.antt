use Rattle.std.proofs.Common.{◌≡◌, drop}
use Rattle.xs_array.specs.Cells.{are_positive}
use Rattle.xs_array.proofs.cells.are_positive.Given as goal

abbrev pub invariant-loop-size : goal.invariant-loop-size
invariant-loop-size l = are_positive (drop l.size-index l.sizes) ≡ are_positive l.sizes
