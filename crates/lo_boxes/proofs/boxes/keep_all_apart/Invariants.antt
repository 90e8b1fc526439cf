use Rattle.std.proofs.Common.{◌+◌, ◌*◌, ◌≤◌, drop, length}
use Rattle.lo_base.specs.Partway.{Partway}
use Rattle.lo_boxes.specs.Boxes.{apart}
use Rattle.lo_emit.specs.Loops.{for_pairs}
use Rattle.lo_boxes.proofs.boxes.keep_all_apart.Given as goal

abbrev pub invariant-loop-i : goal.invariant-loop-i
invariant-loop-i g l =
    let e = g.E.Emit in
    record {
      due : Partway e.grew l.fn.out l.out (for_pairs apart (e.count l.out) (drop l.i l.boxes)) (for_pairs apart (e.count l.fn.out) l.boxes);
      room : e.count l.out ≤ e.count l.fn.out + l.i * (length l.boxes * (2 * l.dimensions));
    }
