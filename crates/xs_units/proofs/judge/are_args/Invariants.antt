use Rattle.std.proofs.Common.{◌≡◌, drop}
use Rattle.std.specs.List.{list_all}
use Rattle.xs_var.specs.Elements.{children_of}
use Rattle.xs_units.specs.Units.{is_args}
use Rattle.xs_units.proofs.judge.are_args.Given as goal

abbrev pub invariant-loop-piece : goal.invariant-loop-piece
invariant-loop-piece l = list_all is_args (children_of (drop l.piece-index l.pieces)) ≡ list_all is_args (children_of l.pieces)
