use Rattle.std.proofs.Common.{◌≡◌, length, pos}
use Rattle.xs_model.specs.Instance.{term_values}
use Rattle.xs_model.specs.Lists.{is_among}
use Rattle.xs_boxes.specs.Tests.{AreTerms}
use Rattle.xs_boxes.proofs.holds.has_zero.Given as goal

abbrev pub invariant-loop-term : goal.invariant-loop-term
invariant-loop-term l = record {
  so_far : is_among (term_values l.a l.rest) (pos 0) ≡ is_among (term_values l.a l.lengths) (pos 0);
  formed : AreTerms (length l.a) l.rest;
}

abbrev pub decreases-loop-term : goal.decreases-loop-term
decreases-loop-term l = length l.rest
