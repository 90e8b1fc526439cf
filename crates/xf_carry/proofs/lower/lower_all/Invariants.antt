use Rattle.std.proofs.Common.{◌≤◌, ◌+◌, ◌^◌, drop}
use Rattle.lo_base.specs.Item.{made}
use Rattle.lo_base.specs.Partway.{Partway}
use Rattle.lo_instance.specs.Form.{low_all}
use Rattle.xs_model.specs.Spans.{spans_of}
use Rattle.xf_carry.proofs.lower.lower_all.Given as goal

abbrev pub invariant-loop-constraint : goal.invariant-loop-constraint
invariant-loop-constraint g l =
    let e = g.E.Emit in
    let ss = spans_of l.inst.decls in
    record {
      due : Partway e.grew l.fn.out l.out (low_all ss (e.count l.out) (drop l.constraint-index l.inst.constraints)) (low_all ss (e.count l.fn.out) l.inst.constraints);
      room : e.count l.out + made (low_all ss (e.count l.out) (drop l.constraint-index l.inst.constraints)) ≤ 2 ^ 60;
    }
