use Rattle.std.proofs.Common.{◌≡◌, ◌++◌, drop}
use Rattle.xs_fields.specs.Cells.{variables_at}
use Rattle.xs_fields.proofs.variables.variables_at.Given as goal

abbrev pub invariant-loop-place : goal.invariant-loop-place
invariant-loop-place l = l.vars ++ variables_at l.names l.at (drop l.place-index l.places) ≡ variables_at l.names l.at l.places
