use Rattle.std.proofs.Common.{◌≡◌, ◌+◌, ◌*◌, ◌≤◌, drop, length}
use Rattle.lo_base.specs.Partway.{Partway}
use Rattle.lo_paths.specs.Path.{low_layers, low_regular}
use Rattle.lo_paths.proofs.path.lower_layers.Given as goal

abbrev pub invariant-loop-x : goal.invariant-loop-x
invariant-loop-x g l =
    let e = g.E.Emit in
    record {
      due : Partway e.grew l.fn.out l.out (low_layers l.edges l.finals (e.count l.out) l.layer (drop l.x-index l.list)) (low_regular (e.count l.fn.out) l.list l.edges l.start l.finals);
      even : length l.layer.truths ≡ length l.layer.states;
      room : e.count l.out ≤ e.count l.fn.out + l.x-index * (3 * length l.edges);
    }
