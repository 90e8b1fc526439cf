use Rattle.std.proofs.Common.{◌≡◌, length}
use Rattle.std.specs.Ordering.{int_eq}
use Rattle.xs_model.specs.Instance.{values}
use Rattle.xs_testing.specs.Rows.{AreBelow}
use Rattle.xs_compared.specs.Tests.{all_next}
use Rattle.xs_compared.proofs.neighbours.are_equal.Given as goal

abbrev pub invariant-loop-variable : goal.invariant-loop-variable
invariant-loop-variable l = record { so_far : all_next int_eq (values l.a l.rest) ≡ all_next int_eq (values l.a l.list); valued : AreBelow (length l.a) l.rest }

abbrev pub decreases-loop-variable : goal.decreases-loop-variable
decreases-loop-variable l = length l.rest
