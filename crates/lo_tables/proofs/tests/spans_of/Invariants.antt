use Rattle.std.proofs.Common.{◌≤◌, length}
use Rattle.lo_tables.proofs.tests.spans_of.Given as goal

abbrev pub invariant-loop-lo : goal.invariant-loop-lo
invariant-loop-lo l = length l.spans ≤ l.lo-index
