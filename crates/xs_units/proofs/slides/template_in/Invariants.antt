use Rattle.std.proofs.Common.{◌≡◌, drop}
use Rattle.xs_var.specs.Elements.{children_of}
use Rattle.xs_units.specs.Units.{template_in}
use Rattle.xs_units.proofs.slides.template_in.Given as goal

abbrev pub invariant-loop-piece : goal.invariant-loop-piece
invariant-loop-piece l = template_in (children_of (drop l.piece-index l.pieces)) ≡ template_in (children_of l.pieces)
