use Rattle.std.proofs.Common.{◌≡◌, drop, map}
use Rattle.std.specs.List.{list_all}
use Rattle.xs_units.specs.Forms.{is_attribute_known}
use Rattle.xs_units.specs.Rows.{rows_of}
use Rattle.xs_units.proofs.forms.are_attributes_known.Given as goal

abbrev pub invariant-loop-attr : goal.invariant-loop-attr
invariant-loop-attr l = list_all (is_attribute_known (map (λ name. name.now) l.dropped) l.owner (rows_of l.rows)) (drop l.attr-index l.attrs) ≡ list_all (is_attribute_known (map (λ name. name.now) l.dropped) l.owner (rows_of l.rows)) l.attrs
