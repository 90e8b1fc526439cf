use Rattle.std.proofs.Common.{refl}
use Rattle.lo_circuits.proofs.CodeLemmas.{indices_more, longer}
use Rattle.lo_circuits.proofs.places.indices.Goals as goal

pub loop-place-preserved : goal.loop-place-preserved
loop-place-preserved c = record {
  all = rw c.in_ok-push.ensures.ok (rw c.index_of.ensures (indices_more c.args.nodes.now.start c.loop-place.place c.loop-place.all _ c.loop-place.invariant.all refl));
  even = rw c.in_ok-push.ensures.ok (longer c.loop-place.all _ c.loop-place.place c.loop-place.invariant.even);
}
