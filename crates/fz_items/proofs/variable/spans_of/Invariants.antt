use Rattle.std.proofs.Common.{◌≡◌, ◌++◌, drop, map}
use Rattle.fz_model.specs.Limits.{exactly}
use Rattle.fz_items.proofs.variable.spans_of.Given as goal

abbrev pub invariant-loop-value : goal.invariant-loop-value
invariant-loop-value l = l.row ++ map exactly (drop l.value-index l.values) ≡ map exactly l.values
