use Rattle.std.proofs.Common.{◌≡◌, nat_le, drop, map, length}
use Rattle.xs_model.specs.Formed.{total}
use Rattle.xs_tables.proofs.sizes.are_few.Given as goal

abbrev pub invariant-loop-tuple : goal.invariant-loop-tuple
invariant-loop-tuple l = nat_le (total (map length (drop l.tuple-index l.tuples))) l.room ≡ nat_le (total (map length l.tuples)) l.left
