use Rattle.std.proofs.Common.{◌≡◌, length}
use Rattle.std.specs.List.{AllByRecursion}
use Rattle.xs_model.specs.Instance.{rows_of}
use Rattle.xs_testing.specs.Rows.{AreBelow}
use Rattle.xs_compared.specs.Tests.{all_pairs, is_other}
use Rattle.xs_compared.proofs.lists.are_other.Given as goal

abbrev pub invariant-loop-list : goal.invariant-loop-list
invariant-loop-list l = record {
  so_far : all_pairs is_other (rows_of l.a l.rest) ≡ all_pairs is_other (rows_of l.a l.lists);
  valued : AllByRecursion (AreBelow (length l.a)) l.rest;
}

abbrev pub decreases-loop-list : goal.decreases-loop-list
decreases-loop-list l = length l.rest
