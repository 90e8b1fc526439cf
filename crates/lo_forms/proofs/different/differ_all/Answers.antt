use Rattle.std.proofs.Common.{arith}
use Rattle.lo_base.specs.Partway.{on_err}
use Rattle.lo_emit.proofs.Looping.{pairs_more}
use Rattle.lo_forms.specs.Different.{differ}
use Rattle.lo_forms.proofs.different.differ_all.Goals as goal

pub returns-in_err-differ_from-clause-stopped : goal.returns-in_err-differ_from-clause-stopped
returns-in_err-differ_from-clause-stopped g c =
    let more = pairs_more differ (g.E.Emit.count c.loop-i.out) c.args.terms.now c.loop-i.i _ (omega arith) in
    on_err c.from_residual.result (g.met.E.Emit.stops _ _ _ _ _ _ _ c.loop-i.invariant.due c.in_err-differ_from.ensures.stopped more)

pub loop-i-preserved : goal.loop-i-preserved
loop-i-preserved g c =
    let more = pairs_more differ (g.E.Emit.count c.loop-i.out) c.args.terms.now c.loop-i.i _ (omega arith) in
    let counted = c.in_ok-differ_from.ensures.count in
    record { due = rw counted (g.met.E.Emit.goes_on _ _ _ _ _ _ _ c.loop-i.invariant.due c.in_ok-differ_from.ensures.ok more) }
