use Rattle.std.proofs.Common.{◌+◌, ◌≤◌, drop}
use Rattle.lo_base.specs.Partway.{Partway}
use Rattle.lo_tables.specs.Unary.{in_none}
use Rattle.lo_tables.proofs.unary.lower_in_none.Given as goal

abbrev pub invariant-loop-range : goal.invariant-loop-range
invariant-loop-range g l =
    let e = g.E.Emit in
    record {
      due : Partway e.grew l.fn.out l.out (in_none (e.count l.out) l.x (drop l.range-index l.ranges)) (in_none (e.count l.fn.out) l.x l.ranges);
      room : e.count l.out ≤ e.count l.fn.out + l.range-index;
    }
