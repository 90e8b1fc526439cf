use Rattle.lo_base.specs.Partway.{on_err}
use Rattle.lo_circuits.proofs.CodeLemmas.{longer, walk_items, walk_terms, two_more}
use Rattle.lo_circuits.proofs.walk.walk_behind.Goals as goal

pub returns-in_err-last-clause-stopped : goal.returns-in_err-last-clause-stopped
returns-in_err-last-clause-stopped g c =
    let more = walk_items c.args.nodes.now (g.E.Emit.count c.loop.out) c.loop.last c.args.behind.now c.loop.index c.loop-test.true in
    on_err c.from_residual-in_err-last.result (g.met.E.Emit.stops _ _ _ _ _ _ _ c.loop.invariant.due c.in_err-last.ensures.stopped more)

pub loop-preserved : goal.loop-preserved
loop-preserved g c =
    let more = walk_items c.args.nodes.now (g.E.Emit.count c.loop.out) c.loop.last c.args.behind.now c.loop.index c.loop-test.true in
    let value = c.in_ok-last.ensures.value in
    let counted = c.in_ok-last.ensures.count in
    let pushed = c.in_ok-last.ensures.pushed in
    record {
      due = rw value (rw counted (g.met.E.Emit.goes_on _ _ _ _ _ _ _ c.loop.invariant.due c.in_ok-last.ensures.ok more));
      terms = rw value (rw counted (rw pushed (walk_terms c.args.nodes.now (g.E.Emit.count c.loop.out) c.loop.last c.args.behind.now c.loop.index c.loop-test.true c.loop.all _ c.loop.invariant.terms)));
      room = two_more c.loop.index _ _ _ c.in_ok-last.ensures.few c.loop.invariant.room;
      even = rw pushed (longer c.loop.all _ _ c.loop.invariant.even);
    }
