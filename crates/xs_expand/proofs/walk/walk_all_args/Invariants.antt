use Rattle.std.proofs.Common.{◌≡◌, ◌≤◌, length, map}
use Rattle.xs_var.specs.Elements.{children_of}
use Rattle.xs_template.specs.Template.{most_words}
use Rattle.xs_units.specs.Units.{args_unit, run}
use Rattle.xs_template.specs.Template.{within_words}
use Rattle.xs_expand.proofs.walk.walk_all_args.Given as goal

abbrev pub invariant-loop-args : goal.invariant-loop-args
invariant-loop-args g l = record {
  few : l.known.words ≤ most_words;
  so_far : run g.T.Take.taken (map (args_unit within_words l.names l.node) (children_of l.rest)) l.known ≡ run g.T.Take.taken (map (args_unit within_words l.names l.node) (children_of l.pieces)) l.initial.known;
}

abbrev pub decreases-loop-args : goal.decreases-loop-args
decreases-loop-args g l = length l.rest
