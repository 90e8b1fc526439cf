use Rattle.std.proofs.Common.{◌≡◌, drop, length}
use Rattle.std.specs.Prelude.{fold}
use Rattle.std.specs.Int.{int_max}
use Rattle.xs_model.specs.Instance.{values}
use Rattle.xs_testing.specs.Rows.{AreBelow}
use Rattle.xs_counted.proofs.extremes.greatest_from.Given as goal

abbrev pub invariant-loop-variable : goal.invariant-loop-variable
invariant-loop-variable l = record {
  so_far : fold int_max l.greatest (values l.a (drop l.variable-index l.list)) ≡ fold int_max l.first (values l.a l.list);
  valued : AreBelow (length l.a) (drop l.variable-index l.list);
}
