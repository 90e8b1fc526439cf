use Rattle.std.proofs.Common.{◌≡◌, drop}
use Rattle.xs_var.specs.Like.{is_same}
use Rattle.xs_var.proofs.like.is_same.Given as goal

abbrev pub invariant-loop-range : goal.invariant-loop-range
invariant-loop-range l = is_same (drop l.range-index l.a) l.rest ≡ is_same l.a l.b
