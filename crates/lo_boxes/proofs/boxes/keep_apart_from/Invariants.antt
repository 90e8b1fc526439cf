use Rattle.std.proofs.Common.{◌≡◌, ◌+◌, ◌*◌, drop}
use Rattle.lo_base.specs.Partway.{Partway}
use Rattle.lo_boxes.specs.Boxes.{apart}
use Rattle.lo_emit.specs.Loops.{for_all}
use Rattle.lo_boxes.proofs.boxes.keep_apart_from.Given as goal

abbrev pub invariant-loop-other : goal.invariant-loop-other
invariant-loop-other g l =
    let e = g.E.Emit in
    record {
      due : Partway e.grew l.fn.out l.out (for_all (λ n q. apart n l.first q) (e.count l.out) (drop l.other-index l.others)) (for_all (λ n q. apart n l.first q) (e.count l.fn.out) l.others);
      room : e.count l.out ≡ e.count l.fn.out + l.other-index * (2 * l.dimensions);
    }
