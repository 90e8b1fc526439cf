use Rattle.std.proofs.Common.{◌≡◌, length}
use Rattle.lo_paths.proofs.tests.edges_of.Given as goal

abbrev pub invariant-loop-from : goal.invariant-loop-from
invariant-loop-from l = length l.edges ≡ l.from-index
