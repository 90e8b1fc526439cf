use Rattle.std.proofs.Common.{◌≡◌, length}
use Rattle.xs_model.specs.Instance.{values}
use Rattle.xs_testing.specs.Rows.{AreBelow}
use Rattle.xs_compared.specs.Tests.{is_same}
use Rattle.xs_compared.proofs.lists.is_same.Given as goal

abbrev pub invariant-loop-one : goal.invariant-loop-one
invariant-loop-one l = record {
  so_far : is_same (values l.a l.ones) (values l.a l.others) ≡ is_same (values l.a l.first) (values l.a l.second);
  ones : AreBelow (length l.a) l.ones;
  others : AreBelow (length l.a) l.others;
}

abbrev pub decreases-loop-one : goal.decreases-loop-one
decreases-loop-one l = length l.ones
