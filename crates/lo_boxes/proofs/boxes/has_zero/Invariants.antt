use Rattle.std.proofs.Common.{◌≡◌, drop}
use Rattle.xs_laws.specs.Boxes.{has_zero}
use Rattle.lo_boxes.proofs.boxes.has_zero.Given as goal

abbrev pub invariant-loop-length : goal.invariant-loop-length
invariant-loop-length l = has_zero (drop l.length-index l.lengths) ≡ has_zero l.lengths
