use Rattle.std.proofs.Common.{◌≡◌, drop, length}
use Rattle.std.specs.List.{AllByRecursion, list_all}
use Rattle.xs_model.specs.Instance.{rows_of, values}
use Rattle.xs_testing.specs.Rows.{AreBelow}
use Rattle.xs_compared.specs.Tests.{is_other}
use Rattle.xs_compared.proofs.lists.is_other.Given as goal

abbrev pub invariant-loop-other : goal.invariant-loop-other
invariant-loop-other l = record {
  so_far : list_all (is_other (values l.a l.list)) (rows_of l.a (drop l.other-index l.others)) ≡ list_all (is_other (values l.a l.list)) (rows_of l.a l.others);
  valued : AllByRecursion (AreBelow (length l.a)) (drop l.other-index l.others);
}
