use Rattle.std.proofs.Common.{◌≡◌, length}
use Rattle.xs_model.specs.Instance.{term_values, values}
use Rattle.xs_testing.specs.Rows.{AreBelow}
use Rattle.xs_boxes.specs.Tests.{AreTerms, are_apart, sides}
use Rattle.xs_boxes.proofs.holds.are_apart.Given as goal

abbrev pub invariant-loop-one : goal.invariant-loop-one
invariant-loop-one l = record {
  so_far : are_apart (sides (values l.a l.first_left) (term_values l.a l.lengths_left)) (sides (values l.a l.second_left) (term_values l.a l.others_left))
      ≡ are_apart (sides (values l.a l.origin) (term_values l.a l.lengths)) (sides (values l.a l.other_origin) (term_values l.a l.other_lengths));
  first : AreBelow (length l.a) l.first_left;
  lengths : AreTerms (length l.a) l.lengths_left;
  second : AreBelow (length l.a) l.second_left;
  others : AreTerms (length l.a) l.others_left;
}

abbrev pub decreases-loop-one : goal.decreases-loop-one
decreases-loop-one l = length l.first_left
