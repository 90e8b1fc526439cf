use Rattle.std.proofs.Common.{◌≡◌, length}
use Rattle.xs_tables.specs.Groups.{inner_of}
use Rattle.xs_tables.proofs.groups.inner.Given as goal

abbrev pub invariant-loop-first : goal.invariant-loop-first
invariant-loop-first l = inner_of l.rest ≡ inner_of l.group

abbrev pub decreases-loop-first : goal.decreases-loop-first
decreases-loop-first l = length l.rest
