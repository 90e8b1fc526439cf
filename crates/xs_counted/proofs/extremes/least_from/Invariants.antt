use Rattle.std.proofs.Common.{◌≡◌, drop, length}
use Rattle.std.specs.Prelude.{fold}
use Rattle.std.specs.Int.{int_min}
use Rattle.xs_model.specs.Instance.{values}
use Rattle.xs_testing.specs.Rows.{AreBelow}
use Rattle.xs_counted.proofs.extremes.least_from.Given as goal

abbrev pub invariant-loop-variable : goal.invariant-loop-variable
invariant-loop-variable l = record {
  so_far : fold int_min l.least (values l.a (drop l.variable-index l.list)) ≡ fold int_min l.first (values l.a l.list);
  valued : AreBelow (length l.a) (drop l.variable-index l.list);
}
