use Rattle.std.proofs.Common.{◌≡◌, true, Ok, length}
use Rattle.xs_file.specs.Sections.{sections_behind}
use Rattle.xs_model.specs.Outline.{outlines_of}
use Rattle.xs_var.specs.Elements.{children_of}
use Rattle.xs_file.proofs.sections.read_rest.Given as goal

abbrev pub invariant-loop-node : goal.invariant-loop-node
invariant-loop-node l = record {
  names : l.names ≡ outlines_of l.held.declared.decls;
  so_far : sections_behind true (Ok l.held) (children_of l.rest) ≡ sections_behind true (Ok l.initial.held) (children_of l.pieces);
}

abbrev pub decreases-loop-node : goal.decreases-loop-node
decreases-loop-node l = length l.rest
