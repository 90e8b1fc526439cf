use Rattle.std.proofs.Common.{◌≡◌, nat_eq, length}
use Rattle.std.specs.List.{list_all}
use Rattle.xs_boxes.specs.Boxes.{widths_of}
use Rattle.xs_boxes.proofs.widths.are_wide.Given as goal

abbrev pub invariant-loop-group : goal.invariant-loop-group
invariant-loop-group l = list_all (nat_eq l.width) (widths_of l.rest) ≡ list_all (nat_eq l.width) (widths_of l.text)

abbrev pub decreases-loop-group : goal.decreases-loop-group
decreases-loop-group l = length l.rest
