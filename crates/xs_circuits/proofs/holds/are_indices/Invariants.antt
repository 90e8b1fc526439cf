use Rattle.std.proofs.Common.{◌≡◌, drop, length}
use Rattle.std.specs.List.{list_all}
use Rattle.xs_laws.specs.Indices.{is_index}
use Rattle.xs_model.specs.Instance.{values}
use Rattle.xs_circuits.proofs.holds.are_indices.Given as goal

abbrev pub invariant-loop-variable : goal.invariant-loop-variable
invariant-loop-variable l = list_all (is_index l.start (length l.list)) (values l.a (drop l.variable-index l.list)) ≡ list_all (is_index l.start (length l.list)) (values l.a l.list)
