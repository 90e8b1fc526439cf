use Rattle.std.proofs.Common.{◌≡◌, ◌++◌, drop}
use Rattle.xs_fields.specs.Cells.{widened_by}
use Rattle.xs_fields.proofs.cells.widened.Given as goal

abbrev pub invariant-loop-place : goal.invariant-loop-place
invariant-loop-place l = l.next ++ widened_by l.fn.size l.fn.bracket (drop l.place-index l.places) ≡ widened_by l.fn.size l.fn.bracket l.places
