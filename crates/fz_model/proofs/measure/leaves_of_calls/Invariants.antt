use Rattle.std.proofs.Common.{◌≡◌, ◌+◌, map, drop, sum}
use Rattle.fz_model.specs.Size.{call_leaves}
use Rattle.fz_model.proofs.measure.leaves_of_calls.Given as goal

abbrev pub invariant-loop-call : goal.invariant-loop-call
invariant-loop-call l = l.total + sum (map call_leaves (drop l.call-index l.calls)) ≡ sum (map call_leaves l.calls)
