use Rattle.std.proofs.Common.{◌≡◌, ◌++◌, drop}
use Rattle.xs_boxes.specs.Boxes.{one_each}
use Rattle.xs_boxes.proofs.rows.one_each_variable.Given as goal

abbrev pub invariant-loop-variable : goal.invariant-loop-variable
invariant-loop-variable l = l.rows ++ one_each (drop l.variable-index l.list) ≡ one_each l.list
