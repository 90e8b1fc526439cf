use Rattle.lo_circuits.proofs.CodeLemmas.{ones_more}
use Rattle.lo_circuits.proofs.places.ones.Goals as goal

pub loop-preserved : goal.loop-preserved
loop-preserved c = rw c.in_ok-push.ensures.ok (ones_more c.loop.all c.args.terms.now c.loop.index c.loop-test.true c.loop.invariant)
