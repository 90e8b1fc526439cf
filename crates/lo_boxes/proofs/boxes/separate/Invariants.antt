use Rattle.std.proofs.Common.{◌≡◌, ◌+◌, ◌*◌, ◌++◌, drop}
use Rattle.lo_base.specs.Partway.{Partway}
use Rattle.lo_boxes.specs.Boxes.{separations}
use Rattle.lo_boxes.proofs.boxes.separate.Given as goal

abbrev pub invariant-loop-i : goal.invariant-loop-i
invariant-loop-i g l =
    let e = g.E.Emit in
    record {
      due : Partway e.grew l.fn.out l.out (separations (e.count l.out) (drop l.i l.first) (drop l.i l.second)).items (separations (e.count l.fn.out) l.first l.second).items;
      terms : l.all ++ (separations (e.count l.out) (drop l.i l.first) (drop l.i l.second)).terms ≡ (separations (e.count l.fn.out) l.first l.second).terms;
      room : e.count l.out ≡ e.count l.fn.out + 2 * l.i;
    }
