use Rattle.std.proofs.Common.{◌≡◌, drop}
use Rattle.lo_base.specs.Partway.{Partway}
use Rattle.lo_emit.specs.Loops.{for_all}
use Rattle.lo_circuits.specs.Circuit.{low_inside}
use Rattle.lo_circuits.proofs.places.lower_inside.Given as goal

abbrev pub invariant-loop-place : goal.invariant-loop-place
invariant-loop-place g l =
    let e = g.E.Emit in
    record {
      due : Partway e.grew l.fn.out l.out (for_all (low_inside l.range) (e.count l.out) (drop l.place-index l.places)) (for_all (low_inside l.range) (e.count l.fn.out) l.places);
      same : e.count l.out ≡ e.count l.fn.out;
    }
