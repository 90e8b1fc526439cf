use Rattle.std.proofs.Common.{◌≡◌, ◌≤◌, ◌+◌, drop, length}
use Rattle.xs_laws.proofs.Members.{passes}
use Rattle.xs_model.specs.Instance.{values}
use Rattle.xs_model.specs.Lists.{is_among}
use Rattle.xs_testing.specs.Rows.{AreBelow}
use Rattle.xs_counted.proofs.count.count_among.Given as goal

abbrev pub invariant-loop-variable : goal.invariant-loop-variable
invariant-loop-variable l = record {
  so_far : l.count + passes (is_among l.sorted) (values l.a (drop l.variable-index l.list)) ≡ passes (is_among l.sorted) (values l.a l.list);
  few : l.count ≤ l.variable-index;
  valued : AreBelow (length l.a) (drop l.variable-index l.list);
}
