use Rattle.std.proofs.Common.{◌≡◌, ◌<◌, ◌≤◌, ◌+◌, ◌++◌, drop, length}
use Rattle.std.specs.List.{AllByRecursion}
use Rattle.xs_forms.specs.Room.{with_values}
use Rattle.xs_model.specs.Instance.{values}
use Rattle.xs_testing.proofs.put.put_values.Given as goal

abbrev pub invariant-loop-variable : goal.invariant-loop-variable
invariant-loop-variable l = record {
  same : l.scratch ≡ with_values l.initial.scratch l.scratch.values;
  so_far : l.scratch.values ++ values l.a (drop l.variable-index l.list) ≡ values l.a l.list;
  valued : AllByRecursion (λ v. v < length l.a) (drop l.variable-index l.list);
  room : length l.scratch.values + length (drop l.variable-index l.list) ≤ l.scratch.most;
}
