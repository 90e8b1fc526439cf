use Rattle.std.proofs.Common.{◌≡◌, drop}
use Rattle.std.specs.List.{list_any}
use Rattle.xs_units.specs.Forms.{is_attribute_of}
use Rattle.xs_units.specs.Rows.{rows_of}
use Rattle.xs_units.proofs.forms.has_row.Given as goal

abbrev pub invariant-loop-row : goal.invariant-loop-row
invariant-loop-row l = list_any (is_attribute_of l.owner l.attr) (rows_of (drop l.row-index l.rows)) ≡ list_any (is_attribute_of l.owner l.attr) (rows_of l.rows)
