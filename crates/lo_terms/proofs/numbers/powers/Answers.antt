use Rattle.std.proofs.Common.{arith, refl, ◌∙◌}
use Rattle.lo_base.specs.Partway.{on_err}
use Rattle.lo_terms.proofs.PowerLemmas.{powers-items, powers-term}
use Rattle.lo_terms.proofs.numbers.powers.Goals as goal

pub returns-in_err-so_far-clause-stopped : goal.returns-in_err-so_far-clause-stopped
returns-in_err-so_far-clause-stopped g c =
    let bounds = c.kept-bounds.ensures _ c.pow.ensures.value in
    let items = powers-items (g.E.Emit.count c.loop-left.out) _ c.args.span c.kept-bounds.result c.args.x c.loop-left.so_far _ c.loop-left.exponent c.loop-left.left c.loop-left-test.true bounds refl refl in
    on_err c.from_residual.result (g.met.E.Emit.stops _ _ _ _ _ _ _ c.loop-left.invariant.due c.in_err-so_far.ensures.stopped items)

pub loop-left-preserved : goal.loop-left-preserved
loop-left-preserved g c =
    let n = g.E.Emit.count c.loop-left.out in
    let bounds = c.kept-bounds.ensures _ c.pow.ensures.value in
    let after = g.E.Emit.count c.integer_of_two.new.out in
    let items = powers-items n after c.args.span c.kept-bounds.result c.args.x c.loop-left.so_far c.in_ok-so_far.so_far c.loop-left.exponent c.loop-left.left c.loop-left-test.true bounds c.in_ok-so_far.ensures.count c.in_ok-so_far.ensures.value in
    record {
      due = g.met.E.Emit.goes_on _ _ _ _ _ _ _ c.loop-left.invariant.due c.in_ok-so_far.ensures.ok items;
      told = powers-term n after c.args.span c.args.x c.loop-left.so_far c.in_ok-so_far.so_far c.loop-left.exponent c.loop-left.left c.loop-left-test.true c.in_ok-so_far.ensures.count c.in_ok-so_far.ensures.value ∙ c.loop-left.invariant.told;
      room = let at = c.in_ok-so_far.ensures.count in let before = c.loop-left.invariant.room in let lt = c.loop-left-test.true in omega arith;
      next = let before = c.loop-left.invariant.next in let lt = c.loop-left-test.true in omega arith;
    }
