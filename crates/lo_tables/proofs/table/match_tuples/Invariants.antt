use Rattle.std.proofs.Common.{◌≡◌, ◌+◌, ◌*◌, ◌≤◌, drop, length}
use Rattle.lo_base.specs.Partway.{Partway}
use Rattle.lo_emit.specs.Loops.{in_turn}
use Rattle.lo_tables.specs.Table.{supports, support_step}
use Rattle.lo_tables.proofs.table.match_tuples.Given as goal

abbrev pub invariant-loop-tuple : goal.invariant-loop-tuple
invariant-loop-tuple g l =
    let e = g.E.Emit in
    record {
      due : Partway e.grew l.fn.out l.out (in_turn (support_step l.list) (e.count l.out) (record { table = l.table; terms = l.all }) (drop l.tuple-index l.tuples)).items (supports (e.count l.fn.out) l.fn.table l.list l.tuples).items;
      state : (in_turn (support_step l.list) (e.count l.out) (record { table = l.table; terms = l.all }) (drop l.tuple-index l.tuples)).state ≡ (supports (e.count l.fn.out) l.fn.table l.list l.tuples).state;
      room : e.count l.out ≤ e.count l.fn.out + l.tuple-index * (length l.list + 1);
    }
