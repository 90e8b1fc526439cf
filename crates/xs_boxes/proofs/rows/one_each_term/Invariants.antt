use Rattle.std.proofs.Common.{◌≡◌, ◌++◌, drop}
use Rattle.xs_boxes.specs.Boxes.{one_each}
use Rattle.xs_boxes.proofs.rows.one_each_term.Given as goal

abbrev pub invariant-loop-term : goal.invariant-loop-term
invariant-loop-term l = l.rows ++ one_each (drop l.term-index l.list) ≡ one_each l.list
