use Rattle.std.proofs.Common.{◌≡◌, map, take}
use Rattle.fz_model.specs.Limits.{exactly}
use Rattle.fz_calls.proofs.tests.points.Given as goal

abbrev pub invariant-loop-value : goal.invariant-loop-value
invariant-loop-value l = l.spans.items ≡ map exactly (take l.value-index l.values)
