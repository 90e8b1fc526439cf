use Rattle.std.proofs.Common.{◌≡◌, ◌+◌, drop, map, length}
use Rattle.xs_model.specs.Formed.{total}
use Rattle.xs_forms.proofs.items.count_rows.Given as goal

abbrev pub invariant-loop-row : goal.invariant-loop-row
invariant-loop-row g l = l.count + total (map length (drop l.row-index l.rows)) ≡ total (map length l.rows)
