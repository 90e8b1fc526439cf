use Rattle.std.proofs.Common.{◌≡◌, length}
use Rattle.xs_counted.specs.Tests.{fills}
use Rattle.xs_counted.proofs.cardinality.is_full.Given as goal

abbrev pub invariant-loop-value : goal.invariant-loop-value
invariant-loop-value l = fills l.left l.rest l.sorted ≡ fills (length l.sorted) l.values l.sorted

abbrev pub decreases-loop-value : goal.decreases-loop-value
decreases-loop-value l = length l.rest
