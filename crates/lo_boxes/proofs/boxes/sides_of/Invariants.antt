use Rattle.std.proofs.Common.{◌≡◌, ◌++◌, drop, length}
use Rattle.lo_boxes.specs.Boxes.{sides}
use Rattle.lo_boxes.proofs.boxes.sides_of.Given as goal

abbrev pub invariant-loop-i : goal.invariant-loop-i
invariant-loop-i l = record {
  value : l.all ++ sides (drop l.i l.origin) (drop l.i l.lengths) ≡ sides l.origin l.lengths;
  long : length l.all ≡ l.i;
}
