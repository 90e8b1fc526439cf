use Rattle.std.proofs.Common.{◌≡◌, ◌+◌}
use Rattle.lo_base.specs.Partway.{Partway}
use Rattle.lo_terms.specs.Rules.{powers}
use Rattle.lo_terms.proofs.numbers.powers.Given as goal

abbrev pub invariant-loop-left : goal.invariant-loop-left
invariant-loop-left g l =
    let e = g.E.Emit in
    record {
      due : Partway e.grew l.fn.out l.out (powers (e.count l.out) l.span l.x l.so_far l.exponent l.left).items (powers (e.count l.fn.out) l.span l.x l.x 2 l.steps).items;
      told : (powers (e.count l.out) l.span l.x l.so_far l.exponent l.left).term ≡ (powers (e.count l.fn.out) l.span l.x l.x 2 l.steps).term;
      room : e.count l.out + l.left ≡ e.count l.fn.out + l.steps;
      next : l.exponent + l.left ≡ l.steps + 2;
    }

abbrev pub decreases-loop-left : goal.decreases-loop-left
decreases-loop-left g l = l.left
