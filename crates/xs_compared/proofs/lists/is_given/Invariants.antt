use Rattle.std.proofs.Common.{◌≡◌, length}
use Rattle.xs_model.specs.Instance.{values}
use Rattle.xs_testing.specs.Rows.{AreBelow}
use Rattle.xs_compared.specs.Tests.{is_same}
use Rattle.xs_compared.proofs.lists.is_given.Given as goal

abbrev pub invariant-loop-variable : goal.invariant-loop-variable
invariant-loop-variable l = record {
  so_far : is_same (values l.a l.variables) l.values ≡ is_same (values l.a l.list) l.given;
  valued : AreBelow (length l.a) l.variables;
}

abbrev pub decreases-loop-variable : goal.decreases-loop-variable
decreases-loop-variable l = length l.variables
