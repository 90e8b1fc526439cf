use Rattle.std.proofs.Common.{◌≡◌, ◌+◌, ◌*◌, ◌≤◌, drop, length}
use Rattle.lo_base.specs.Partway.{Partway}
use Rattle.lo_emit.specs.Loops.{in_turn}
use Rattle.lo_paths.specs.Path.{gathered, arrive_step}
use Rattle.lo_paths.proofs.path.gather.Given as goal

abbrev pub invariant-loop-edge : goal.invariant-loop-edge
invariant-loop-edge g l =
    let e = g.E.Emit in
    record {
      due : Partway e.grew l.fn.out l.out (in_turn (arrive_step l.x l.layer) (e.count l.out) (record { table = l.table; arrivals = l.all }) (drop l.edge-index l.edges)).items (gathered l.edges (e.count l.fn.out) l.layer l.x).items;
      state : (in_turn (arrive_step l.x l.layer) (e.count l.out) (record { table = l.table; arrivals = l.all }) (drop l.edge-index l.edges)).state ≡ (gathered l.edges (e.count l.fn.out) l.layer l.x).state;
      room : e.count l.out ≤ e.count l.fn.out + 2 * l.edge-index;
      fewer : length l.all ≤ l.edge-index;
    }
