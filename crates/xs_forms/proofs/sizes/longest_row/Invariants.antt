use Rattle.std.proofs.Common.{◌≡◌, drop, max}
use Rattle.xs_forms.specs.Room.{longest_row}
use Rattle.xs_forms.proofs.sizes.longest_row.Given as goal

abbrev pub invariant-loop-row : goal.invariant-loop-row
invariant-loop-row g l = max l.longest (longest_row (drop l.row-index l.rows)) ≡ longest_row l.rows
