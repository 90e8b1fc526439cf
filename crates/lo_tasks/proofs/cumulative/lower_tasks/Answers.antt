use Rattle.std.proofs.Common.{ℕ, ◌++◌, ap}
use Rattle.lo_tasks.specs.Cumulative.{behind_ends, low_idle}
use Rattle.lo_tasks.proofs.Stopping.{begins_as, on_error}
use Rattle.lo_tasks.proofs.cumulative.lower_tasks.Goals as goal

pub returns-clause-stopped : goal.returns-clause-stopped
returns-clause-stopped g c =
    let a = c.args in
    on_error c.lower_behind.result
    (λ began.
    g.met.E.Emit.then_began _ _ _ _ _ _ c.in_ok-lower_idle.ensures.ok began
    (begins_as _ _ (ap (λ (k : ℕ). low_idle a.limit ++ behind_ends a.spans.now a.limit k a.origins.now a.lengths.now a.heights.now a.ends.now) c.in_ok-lower_idle.ensures.count))) c.lower_behind.ensures.stopped
