use Rattle.std.proofs.Common.{◌≡◌, ◌++◌, drop, map}
use Rattle.xs_template.specs.Template.{within_words}
use Rattle.xs_var.specs.Elements.{children_of}
use Rattle.xs_template.specs.Concrete.{pattern_of}
use Rattle.xs_template.proofs.template.patterns_of.Given as goal

abbrev pub invariant-loop-piece : goal.invariant-loop-piece
invariant-loop-piece l = l.patterns ++ map (pattern_of within_words) (children_of (drop l.piece-index l.pieces)) ≡ map (pattern_of within_words) (children_of l.pieces)
