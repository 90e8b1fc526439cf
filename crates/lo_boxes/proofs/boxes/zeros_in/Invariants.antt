use Rattle.std.proofs.Common.{◌≡◌, ◌+◌, ◌≤◌, ◌++◌, drop}
use Rattle.lo_base.specs.Partway.{Partway}
use Rattle.lo_boxes.specs.Boxes.{variables_in, is_zero}
use Rattle.lo_emit.specs.Loops.{each}
use Rattle.lo_boxes.proofs.boxes.zeros_in.Given as goal

abbrev pub invariant-loop-length : goal.invariant-loop-length
invariant-loop-length g l =
    let e = g.E.Emit in
    record {
      due : Partway e.grew l.fn.out l.out (each is_zero (e.count l.out) (variables_in (drop l.length-index l.lengths))).items (each is_zero (e.count l.fn.out) (variables_in l.lengths)).items;
      terms : l.all ++ (each is_zero (e.count l.out) (variables_in (drop l.length-index l.lengths))).terms ≡ (each is_zero (e.count l.fn.out) (variables_in l.lengths)).terms;
      room : e.count l.out ≤ e.count l.fn.out + l.length-index;
    }
