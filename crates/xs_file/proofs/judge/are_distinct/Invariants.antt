use Rattle.std.proofs.Common.{◌≡◌, length}
use Rattle.xs_file.specs.Sections.{are_distinct, names_of}
use Rattle.xs_var.specs.Elements.{children_of}
use Rattle.xs_file.proofs.judge.are_distinct.Given as goal

abbrev pub invariant-loop-node : goal.invariant-loop-node
invariant-loop-node l = are_distinct (names_of (children_of l.rest)) ≡ are_distinct (names_of (children_of l.pieces))

abbrev pub decreases-loop-node : goal.decreases-loop-node
decreases-loop-node l = length l.rest
