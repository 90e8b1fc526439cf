use Rattle.std.proofs.Common.{arith, ◌*◌}
use Rattle.lo_boxes.specs.Boxes.{apart}
use Rattle.lo_boxes.proofs.Looping.{all_next}
use Rattle.lo_boxes.proofs.Rooms.{one_more_of}
use Rattle.lo_boxes.proofs.boxes.keep_apart_from.Goals as goal

pub loop-other-preserved : goal.loop-other-preserved
loop-other-preserved g c =
    let ok = c.in_ok-keep_apart.ensures.ok in
    let counted = c.in_ok-keep_apart.ensures.count in
    let next =
    all_next (λ n q. apart n c.args.first.now q) (g.E.Emit.count c.loop-other.out) (g.E.Emit.count c.keep_apart.new.out) c.args.others.now c.loop-other.other-index c.other-item.result (omega arith) c.other-item.is (g.met.E.Emit.counted _ _ _ ok) in
    record { due = g.met.E.Emit.goes_on _ _ _ _ _ _ _ c.loop-other.invariant.due ok next; room = omega (arith, counted, c.loop-other.invariant.room, one_more_of c.loop-other.other-index (2 * c.args.dimensions)) }
