use Rattle.std.proofs.Common.{◌≤◌, ◌-◌, length}
use Rattle.xf_markup.specs.Growing.{SoFar}
use Rattle.xf_markup.proofs.read.scan.Given as goal

abbrev pub invariant-loop-at : goal.invariant-loop-at
invariant-loop-at l = record {
  within : l.at ≤ length l.text;
  so_far : SoFar l.text l.at l.growing;
}

abbrev pub decreases-loop-at : goal.decreases-loop-at
decreases-loop-at l = length l.text - l.at
