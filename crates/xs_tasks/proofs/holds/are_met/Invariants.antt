use Rattle.std.proofs.Common.{◌≡◌, drop, length}
use Rattle.std.specs.List.{list_all}
use Rattle.xs_laws.specs.Meeting.{meets}
use Rattle.xs_model.specs.Instance.{term_values, values}
use Rattle.xs_model.specs.Schedule.{load}
use Rattle.xs_testing.specs.Rows.{AreBelow}
use Rattle.xs_tasks.proofs.holds.are_met.Given as goal

abbrev pub invariant-loop-origin : goal.invariant-loop-origin
invariant-loop-origin l = record {
  so_far : list_all (λ s. meets l.a l.cond (load s (values l.a l.origins) (term_values l.a l.lengths) (term_values l.a l.heights))) (values l.a (drop l.origin-index l.origins))
      ≡ list_all (λ s. meets l.a l.cond (load s (values l.a l.origins) (term_values l.a l.lengths) (term_values l.a l.heights))) (values l.a l.origins);
  valued : AreBelow (length l.a) (drop l.origin-index l.origins);
}
