use Rattle.std.proofs.Common.{◌≡◌, ◌++◌, drop, map}
use Rattle.xs_var.specs.Elements.{children_of}
use Rattle.xs_template.specs.Concrete.{part_of, unchanged}
use Rattle.xs_template.proofs.concrete.push_parts.Given as goal

abbrev pub invariant-loop-piece : goal.invariant-loop-piece
invariant-loop-piece l = l.parts ++ map (part_of unchanged) (children_of (drop l.piece-index l.pieces)) ≡ l.initial.parts ++ map (part_of unchanged) (children_of l.pieces)
