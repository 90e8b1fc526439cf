use Rattle.std.proofs.Common.{length, refl, ◌+◌, ◌*◌}
use Rattle.lo_base.specs.Item.{made}
use Rattle.lo_base.specs.Partway.{on_err}
use Rattle.lo_emit.specs.Loops.{for_all}
use Rattle.lo_boxes.specs.Boxes.{apart}
use Rattle.lo_boxes.proofs.Looping.{behind, few_behind, pairs_next}
use Rattle.lo_boxes.proofs.Rooms.{room_here, room_more}
use Rattle.lo_boxes.proofs.boxes.keep_all_apart.Goals as goal

pub keep_apart_from-requires-clause-room : goal.keep_apart_from-requires-clause-room
keep_apart_from-requires-clause-room g c =
    let bs = c.args.boxes.now in
    room_here (g.E.Emit.count c.loop-i.out) (g.E.Emit.count c.args.out.now) c.loop-i.i (length bs) (length (behind bs c.loop-i.i)) (2 * c.args.dimensions) c.loop-i.invariant.room c.loop-i-test.true (few_behind bs c.loop-i.i) c.requires.room

pub returns-in_err-keep_apart_from-clause-stopped : goal.returns-in_err-keep_apart_from-clause-stopped
returns-in_err-keep_apart_from-clause-stopped g c =
    let n = g.E.Emit.count c.loop-i.out in
    let bs = c.args.boxes.now in
    let x = c.index-boxes-i.result in
    let next = pairs_next apart n (n + made (for_all (λ m y. apart m x y) n (behind bs c.loop-i.i))) bs c.loop-i.i x c.loop-i-test.true c.index-boxes-i.is refl in
    on_err c.from_residual.result (g.met.E.Emit.stops _ _ _ _ _ _ _ c.loop-i.invariant.due c.in_err-keep_apart_from.ensures.stopped next)

pub loop-i-preserved : goal.loop-i-preserved
loop-i-preserved g c =
    let n = g.E.Emit.count c.loop-i.out in
    let k = g.E.Emit.count c.keep_apart_from.new.out in
    let bs = c.args.boxes.now in
    let ok = c.in_ok-keep_apart_from.ensures.ok in
    let next = pairs_next apart n k bs c.loop-i.i c.index-boxes-i.result c.loop-i-test.true c.index-boxes-i.is c.in_ok-keep_apart_from.ensures.count in
    record {
      due = g.met.E.Emit.goes_on _ _ _ _ _ _ _ c.loop-i.invariant.due ok next;
      room =
          room_more n k (g.E.Emit.count c.args.out.now) c.loop-i.i (length bs) (length (behind bs c.loop-i.i)) (2 * c.args.dimensions) c.loop-i.invariant.room c.in_ok-keep_apart_from.ensures.few (few_behind bs c.loop-i.i);
    }
