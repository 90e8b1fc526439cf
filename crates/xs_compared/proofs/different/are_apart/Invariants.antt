use Rattle.std.proofs.Common.{◌≡◌, length}
use Rattle.xs_compared.specs.Tests.{all_next, is_apart}
use Rattle.xs_compared.proofs.different.are_apart.Given as goal

abbrev pub invariant-loop-value : goal.invariant-loop-value
invariant-loop-value l = all_next (is_apart l.except) l.rest ≡ all_next (is_apart l.except) l.values

abbrev pub decreases-loop-value : goal.decreases-loop-value
decreases-loop-value l = length l.rest
