use Rattle.std.proofs.Common.{◌≡◌, ◌+◌, ◌≤◌, ◌++◌, drop}
use Rattle.lo_base.specs.Partway.{Partway}
use Rattle.lo_circuits.specs.Circuit.{meetings}
use Rattle.lo_circuits.proofs.circuit.meetings.Given as goal

abbrev pub invariant-loop-met : goal.invariant-loop-met
invariant-loop-met g l =
    let e = g.E.Emit in
    record {
      due : Partway e.grew l.fn.out l.out (meetings (e.count l.out) (drop l.met-index l.walk) l.index).items (meetings (e.count l.fn.out) l.walk l.index).items;
      terms : l.all ++ (meetings (e.count l.out) (drop l.met-index l.walk) l.index).terms ≡ (meetings (e.count l.fn.out) l.walk l.index).terms;
      room : e.count l.out ≤ e.count l.fn.out + l.met-index;
    }
