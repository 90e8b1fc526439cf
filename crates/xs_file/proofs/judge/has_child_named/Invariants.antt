use Rattle.std.proofs.Common.{◌≡◌, drop}
use Rattle.xs_file.specs.Sections.{names_of}
use Rattle.xs_var.specs.Elements.{children_of, is_one_of}
use Rattle.xs_file.proofs.judge.has_child_named.Given as goal

abbrev pub invariant-loop-piece : goal.invariant-loop-piece
invariant-loop-piece l = is_one_of (names_of (children_of (drop l.piece-index l.pieces))) l.name ≡ is_one_of (names_of (children_of l.pieces)) l.name
