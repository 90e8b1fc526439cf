use Rattle.std.proofs.Common.{◌≡◌, length}
use Rattle.std.specs.List.{AllByRecursion, list_all}
use Rattle.xs_model.specs.Instance.{rows_of, term_rows, term_values, values}
use Rattle.xs_model.specs.Schedule.{boxes}
use Rattle.xs_testing.specs.Rows.{AreBelow}
use Rattle.xs_boxes.specs.Tests.{AreTerms, is_clear_of}
use Rattle.xs_boxes.proofs.holds.is_clear_of_all.Given as goal

abbrev pub invariant-loop-other_origin : goal.invariant-loop-other_origin
invariant-loop-other_origin l = record {
  so_far : list_all (is_clear_of l.zero_ignored (record { origin = values l.a l.origin; lengths = term_values l.a l.lengths })) (boxes (rows_of l.a l.rows) (term_rows l.a l.other_rows))
      ≡ list_all (is_clear_of l.zero_ignored (record { origin = values l.a l.origin; lengths = term_values l.a l.lengths })) (boxes (rows_of l.a l.origins) (term_rows l.a l.others));
  origins : AllByRecursion (AreBelow (length l.a)) l.rows;
  others : AllByRecursion (AreTerms (length l.a)) l.other_rows;
}

abbrev pub decreases-loop-other_origin : goal.decreases-loop-other_origin
decreases-loop-other_origin l = length l.rows
