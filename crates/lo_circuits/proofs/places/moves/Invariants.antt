use Rattle.std.proofs.Common.{◌≡◌, ◌+◌, ◌≤◌, ◌++◌, drop, length}
use Rattle.lo_base.specs.Partway.{Partway}
use Rattle.lo_emit.specs.Loops.{each, paired}
use Rattle.lo_circuits.specs.Circuit.{is_moved_one}
use Rattle.lo_circuits.proofs.places.moves.Given as goal

abbrev pub invariant-loop-i : goal.invariant-loop-i
invariant-loop-i g l =
    let e = g.E.Emit in
    record {
      due : Partway e.grew l.fn.out l.out (each is_moved_one (e.count l.out) (paired (drop l.i l.places) (drop l.i l.indices))).items (each is_moved_one (e.count l.fn.out) (paired l.places l.indices)).items;
      terms : l.all ++ (each is_moved_one (e.count l.out) (paired (drop l.i l.places) (drop l.i l.indices))).terms ≡ (each is_moved_one (e.count l.fn.out) (paired l.places l.indices)).terms;
      room : e.count l.out ≤ e.count l.fn.out + l.i;
      even : length l.all ≡ l.i;
    }
