use Rattle.std.proofs.Common.{◌+◌, ◌*◌, ◌≤◌, drop}
use Rattle.lo_base.specs.Partway.{Partway}
use Rattle.lo_emit.specs.Loops.{for_all, paired}
use Rattle.lo_circuits.specs.Circuit.{low_met}
use Rattle.lo_circuits.proofs.circuit.lower_all_met.Given as goal

abbrev pub invariant-loop-i : goal.invariant-loop-i
invariant-loop-i g l =
    let e = g.E.Emit in
    record {
      due : Partway e.grew l.fn.out l.out (for_all (low_met l.walk) (e.count l.out) (paired (drop l.i l.moves) (drop l.i l.indices))) (for_all (low_met l.walk) (e.count l.fn.out) (paired l.moves l.indices));
      room : e.count l.out ≤ e.count l.fn.out + l.i * 536870912;
    }
