use Rattle.std.proofs.Common.{◌≡◌, ◌+◌, ◌≤◌, ◌++◌, drop, length}
use Rattle.lo_base.specs.Partway.{Partway}
use Rattle.lo_circuits.specs.Circuit.{bits}
use Rattle.lo_circuits.proofs.places.bits.Given as goal

abbrev pub invariant-loop-truth : goal.invariant-loop-truth
invariant-loop-truth g l =
    let e = g.E.Emit in
    record {
      due : Partway e.grew l.fn.out l.out (bits (e.count l.out) (drop l.truth-index l.truths)).items (bits (e.count l.fn.out) l.truths).items;
      terms : l.all ++ (bits (e.count l.out) (drop l.truth-index l.truths)).terms ≡ (bits (e.count l.fn.out) l.truths).terms;
      room : e.count l.out ≤ e.count l.fn.out + l.truth-index;
      even : length l.all ≡ l.truth-index;
    }
