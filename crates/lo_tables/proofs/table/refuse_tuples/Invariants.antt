use Rattle.std.proofs.Common.{◌≡◌, ◌+◌, ◌*◌, ◌≤◌, drop, length}
use Rattle.lo_base.specs.Partway.{Partway}
use Rattle.lo_emit.specs.Loops.{in_turn}
use Rattle.lo_tables.specs.Table.{conflicts, conflict_step}
use Rattle.lo_tables.proofs.table.refuse_tuples.Given as goal

abbrev pub invariant-loop-tuple : goal.invariant-loop-tuple
invariant-loop-tuple g l =
    let e = g.E.Emit in
    record {
      due : Partway e.grew l.fn.out l.out (in_turn (conflict_step l.list) (e.count l.out) l.table (drop l.tuple-index l.tuples)).items (conflicts (e.count l.fn.out) l.fn.table l.list l.tuples).items;
      state : (in_turn (conflict_step l.list) (e.count l.out) l.table (drop l.tuple-index l.tuples)).state ≡ (conflicts (e.count l.fn.out) l.fn.table l.list l.tuples).state;
      room : e.count l.out ≤ e.count l.fn.out + l.tuple-index * length l.list;
    }
