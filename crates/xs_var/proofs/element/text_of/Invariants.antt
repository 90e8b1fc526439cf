use Rattle.std.proofs.Common.{◌≡◌, ◌++◌, drop}
use Rattle.xs_var.specs.Elements.{text_in}
use Rattle.xs_var.proofs.element.text_of.Given as goal

abbrev pub invariant-loop-piece : goal.invariant-loop-piece
invariant-loop-piece l = l.text ++ text_in (drop l.piece-index l.piece-items) ≡ text_in l.piece-items
