use Rattle.std.proofs.Common.{◌≡◌, length}
use Rattle.std.specs.List.{AllByRecursion}
use Rattle.xs_model.specs.Instance.{rows_of, term_rows}
use Rattle.xs_model.specs.Schedule.{boxes}
use Rattle.xs_testing.specs.Rows.{AreBelow}
use Rattle.xs_boxes.specs.Tests.{AreTerms, are_clear}
use Rattle.xs_boxes.proofs.holds.are_clear.Given as goal

abbrev pub invariant-loop-origin : goal.invariant-loop-origin
invariant-loop-origin l = record {
  so_far : are_clear l.zero_ignored (boxes (rows_of l.a l.rows) (term_rows l.a l.others)) ≡ are_clear l.zero_ignored (boxes (rows_of l.a l.origins) (term_rows l.a l.lengths));
  origins : AllByRecursion (AreBelow (length l.a)) l.rows;
  lengths : AllByRecursion (AreTerms (length l.a)) l.others;
}

abbrev pub decreases-loop-origin : goal.decreases-loop-origin
decreases-loop-origin l = length l.rows
