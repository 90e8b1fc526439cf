use Rattle.std.proofs.Common.{◌≡◌, ◌+◌, ◌*◌, ◌≤◌, ◌∷◌, ◌++◌, drop, length}
use Rattle.lo_base.specs.Partway.{Partway}
use Rattle.lo_circuits.specs.Circuit.{chained, value_at}
use Rattle.lo_circuits.proofs.walk.walk_behind.Given as goal

abbrev pub invariant-loop : goal.invariant-loop
invariant-loop g l =
    let e = g.E.Emit in
    record {
      due : Partway e.grew l.fn.out l.out (chained (λ k i t. value_at l.nodes k i) (e.count l.out) l.last (drop l.index l.behind)).items (chained (λ k i t. value_at l.nodes k i) (e.count l.fn.out) l.fn.first l.behind).items;
      terms : l.all ++ (chained (λ k i t. value_at l.nodes k i) (e.count l.out) l.last (drop l.index l.behind)).terms ≡ l.fn.first ∷ (chained (λ k i t. value_at l.nodes k i) (e.count l.fn.out) l.fn.first l.behind).terms;
      room : e.count l.out ≤ e.count l.fn.out + 2 * l.index;
      even : length l.all ≡ l.index + 1;
    }
