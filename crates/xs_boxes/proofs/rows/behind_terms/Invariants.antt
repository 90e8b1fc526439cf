use Rattle.std.proofs.Common.{◌≡◌, ◌+◌, drop, length, map}
use Rattle.xs_model.specs.Formed.{total}
use Rattle.xs_boxes.proofs.rows.behind_terms.Given as goal

abbrev pub invariant-loop-row : goal.invariant-loop-row
invariant-loop-row l = l.room + total (map length l.rows) ≡ l.left + total (map length (drop l.row-index l.rows))
