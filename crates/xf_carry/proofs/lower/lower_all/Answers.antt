use Rattle.std.proofs.Common.{◌≡◌, ◌+◌, List, ap, subst, ◌∙◌}
use Rattle.xf_num.specs.Span.{Bounds}
use Rattle.xs_model.specs.Spans.{spans_of}
use Rattle.lo_base.specs.Item.{made}
use Rattle.lo_base.specs.Partway.{starts}
use Rattle.lo_instance.specs.Form.{low_form}
use Rattle.xf_carry.proofs.Room.{few_at, low_all_more, room_more, room_for_all}
use Rattle.xf_carry.proofs.lower.lower_all.Goals as goal

pub loop-constraint-init : goal.loop-constraint-init
loop-constraint-init g c =
    record {
      due = starts g.met.E.Emit.laws _ _;
      room = rw c.requires.count (room_for_all c.args.inst.now c.requires.accepted);
    }

pub lower_constraint-requires-clause-few : goal.lower_constraint-requires-clause-few
lower_constraint-requires-clause-few g c =
    few_at c.args.inst.now c.as_slice-constraint-items.result.now c.loop-constraint.constraint-index c.constraint-item.result c.as_slice-constraint-items.ensures c.loop-constraint-test.true c.constraint-item.is
    c.requires.accepted

pub loop-constraint-preserved : goal.loop-constraint-preserved
loop-constraint-preserved g c =
    let e = g.E.Emit in
    let n = e.count c.loop-constraint.out in
    let ss = spans_of c.args.inst.now.decls in
    let here = c.constraint-item.result in
    let bounds : c.as_slice-in-loop-constraint.result.now ≡ ss = c.as_slice-in-loop-constraint.ensures ∙ c.in_ok-bounds.ensures ∙ ap spans_of c.as_slice.ensures in
    let grew = subst (λ (bs : List Bounds). e.grew c.loop-constraint.out c.lower_constraint.new.out (low_form bs n here)) bounds c.in_ok-lower_constraint.ensures.ok in
    let counted = subst (λ (bs : List Bounds). e.count c.lower_constraint.new.out ≡ n + made (low_form bs n here)) bounds c.in_ok-lower_constraint.ensures.count in
    let inv = c.loop-constraint.invariant in
    let same = c.as_slice-constraint-items.ensures in
    let more = low_all_more ss n c.args.inst.now.constraints c.as_slice-constraint-items.result.now c.loop-constraint.constraint-index here same c.loop-constraint-test.true c.constraint-item.is in
    let room = room_more ss n c.args.inst.now.constraints c.as_slice-constraint-items.result.now c.loop-constraint.constraint-index here same c.loop-constraint-test.true c.constraint-item.is inv.room in
    record {
      due = rw counted (g.met.E.Emit.goes_on _ _ _ _ _ _ _ inv.due grew more);
      room = rw counted room;
    }
