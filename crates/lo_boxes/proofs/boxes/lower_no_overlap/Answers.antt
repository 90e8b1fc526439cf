use Rattle.std.proofs.Common.{ℕ, length, arith, sym, ap, subst, ◌+◌, ◌*◌, ◌≤◌, ◌^◌}
use Rattle.lo_boxes.proofs.BoxLaws.{few_boxes}
use Rattle.lo_boxes.proofs.Rooms.{room_for_all}
use Rattle.xs_model.specs.Lists.{width}
use Rattle.lo_boxes.proofs.boxes.lower_no_overlap.Goals as goal

pub place_all-requires-clause-room : goal.place_all-requires-clause-room
place_all-requires-clause-room g c = let few = (few_boxes c.args.origins.now c.args.lengths.now c.args.zero_ignored c.requires.fitting c.requires.few).0 in omega (arith, few, c.requires.room)

pub keep_all_apart-requires-clause-room : goal.keep_all_apart-requires-clause-room
keep_all_apart-requires-clause-room g c =
    let few = few_boxes c.args.origins.now c.args.lengths.now c.args.zero_ignored c.requires.fitting c.requires.few in
    let m = g.E.Emit.count c.place_all.new.out in
    let k = length c.as_slice.result.now in
    let same = ap length c.as_slice.ensures in
    let long = c.in_ok-boxes.ensures.long in
    subst (λ (d : ℕ). m + k * (k * (2 * d)) ≤ 2 ^ 61) (sym c.dimensions_of.ensures)
    (room_for_all m (g.E.Emit.count c.args.out.now) k (length c.args.origins.now) (width c.args.origins.now) c.requires.room c.in_ok-boxes.ensures.few (omega (arith, same, long)) few.0 few.1)
