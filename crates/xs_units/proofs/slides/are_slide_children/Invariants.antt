use Rattle.std.proofs.Common.{◌≡◌, drop}
use Rattle.std.specs.List.{list_all}
use Rattle.xs_var.specs.Elements.{children_of}
use Rattle.xs_units.specs.Units.{is_slide_child}
use Rattle.xs_units.proofs.slides.are_slide_children.Given as goal

abbrev pub invariant-loop-piece : goal.invariant-loop-piece
invariant-loop-piece l = list_all is_slide_child (children_of (drop l.piece-index l.pieces)) ≡ list_all is_slide_child (children_of l.pieces)
