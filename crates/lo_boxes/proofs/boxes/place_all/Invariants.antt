use Rattle.std.proofs.Common.{◌≡◌, ◌+◌, ◌*◌, ◌≤◌, drop, length}
use Rattle.std.specs.List.{All}
use Rattle.lo_base.specs.Partway.{Partway}
use Rattle.lo_boxes.specs.Boxes.{place_step, placed}
use Rattle.lo_emit.specs.Loops.{in_turn}
use Rattle.xs_laws.specs.Boxes.{term_boxes}
use Rattle.xs_model.specs.Lists.{width}
use Rattle.lo_boxes.proofs.boxes.place_all.Given as goal

abbrev pub invariant-loop-i : goal.invariant-loop-i
invariant-loop-i g l =
    let e = g.E.Emit in
    record {
      due : Partway e.grew l.fn.out l.out (in_turn (place_step l.zero_ignored) (e.count l.out) l.all (term_boxes (drop l.i l.origins) (drop l.i l.lengths))).items (placed l.zero_ignored (e.count l.fn.out) l.origins l.lengths).items;
      state : (in_turn (place_step l.zero_ignored) (e.count l.out) l.all (term_boxes (drop l.i l.origins) (drop l.i l.lengths))).state ≡ (placed l.zero_ignored (e.count l.fn.out) l.origins l.lengths).state;
      wide : All (λ p. length p.sides ≡ width l.origins) l.all;
      long : length l.all ≤ l.i;
      room : e.count l.out ≤ e.count l.fn.out + l.i * width l.origins;
    }
