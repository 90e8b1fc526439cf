use Rattle.std.proofs.Common.{◌≡◌, ◌+◌, ◌≤◌, ◌∷◌, ◌++◌, drop, length}
use Rattle.lo_base.specs.Partway.{Partway}
use Rattle.lo_circuits.specs.Circuit.{chained, or_next}
use Rattle.lo_circuits.proofs.places.seen_from.Given as goal

abbrev pub invariant-loop-other : goal.invariant-loop-other
invariant-loop-other g l =
    let e = g.E.Emit in
    record {
      due : Partway e.grew l.fn.out l.out (chained or_next (e.count l.out) l.last (drop l.other-index l.others)).items (chained or_next (e.count l.fn.out) l.fn.first l.others).items;
      terms : l.all ++ (chained or_next (e.count l.out) l.last (drop l.other-index l.others)).terms ≡ l.fn.first ∷ (chained or_next (e.count l.fn.out) l.fn.first l.others).terms;
      room : e.count l.out ≤ e.count l.fn.out + l.other-index;
      even : length l.all ≡ l.other-index + 1;
    }
