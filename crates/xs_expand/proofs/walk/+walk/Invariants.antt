use Rattle.std.proofs.Common.{◌≡◌, ◌≤◌, drop}
use Rattle.std.specs.List.{flat_map}
use Rattle.xs_var.specs.Elements.{children_of}
use Rattle.xs_template.specs.Template.{most_words}
use Rattle.xs_units.specs.Units.{run, units}
use Rattle.xs_template.specs.Template.{within_words}
use Rattle.xs_expand.proofs.walk.+walk.Given as goal

abbrev pub invariant-walk_pieces-loop-piece : goal.invariant-walk_pieces-loop-piece
invariant-walk_pieces-loop-piece g l = record {
  few : l.known.words ≤ most_words;
  so_far : run g.T.Take.taken (flat_map (units within_words l.names) (children_of (drop l.piece-index l.pieces))) l.known ≡ run g.T.Take.taken (flat_map (units within_words l.names) (children_of l.pieces)) l.initial.known;
}
