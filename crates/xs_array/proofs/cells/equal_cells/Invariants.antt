use Rattle.std.proofs.Common.{◌≡◌, replicate}
use Rattle.xs_array.proofs.cells.equal_cells.Given as goal

abbrev pub invariant-loop : goal.invariant-loop
invariant-loop l = l.cells ≡ replicate l.counter l.domain
