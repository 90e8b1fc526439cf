use Rattle.std.proofs.Common.{◌≡◌, ◌<◌, length}
use Rattle.std.specs.List.{AllByRecursion}
use Rattle.xs_laws.specs.Tables.{is_matched}
use Rattle.xs_model.specs.Instance.{values}
use Rattle.xs_tables.proofs.holds.is_matched.Given as goal

abbrev pub invariant-loop-entry : goal.invariant-loop-entry
invariant-loop-entry l = record {
  valued : AllByRecursion (λ v. v < length l.a) l.variables;
  so_far : is_matched (values l.a l.variables) l.entries ≡ is_matched (values l.a l.list) l.tuple;
}

abbrev pub decreases-loop-entry : goal.decreases-loop-entry
decreases-loop-entry l = length l.entries
