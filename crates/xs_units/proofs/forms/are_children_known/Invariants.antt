use Rattle.std.proofs.Common.{◌≡◌, drop, map}
use Rattle.std.specs.List.{list_all}
use Rattle.xs_var.specs.Elements.{children_of}
use Rattle.xs_units.specs.Forms.{is_child_known}
use Rattle.xs_units.specs.Rows.{rows_of}
use Rattle.xs_units.proofs.forms.are_children_known.Given as goal

abbrev pub invariant-loop-piece : goal.invariant-loop-piece
invariant-loop-piece l = list_all (is_child_known (map (λ name. name.now) l.names) (rows_of l.rows)) (children_of (drop l.piece-index l.pieces)) ≡ list_all (is_child_known (map (λ name. name.now) l.names) (rows_of l.rows)) (children_of l.pieces)
