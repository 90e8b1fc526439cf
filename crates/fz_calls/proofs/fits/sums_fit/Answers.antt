use Rattle.std.proofs.Common.{refl, arith}
use Rattle.fz_calls.specs.Fits.{ends}
use Rattle.fz_calls.proofs.Fitting.{fits_meets, fits_step, fits_done}
use Rattle.fz_calls.proofs.fits.sums_fit.Goals as goal

pub returns : goal.returns
returns c = (λ _. c.loop-at.invariant.0 (fits_done (ends c.args.spans.now) c.args.coefficients.now c.args.items.now c.loop-at.sum c.loop-at.at (omega arith)), λ _. refl)

pub loop-at-preserved : goal.loop-at-preserved
loop-at-preserved c =
    let f = ends c.args.spans.now in
    let m = fits_meets f c.args.coefficients.now c.args.items.now c.loop-at.sum c.loop-at.at c.index-coefficients-at.result c.index-items-at.result (omega arith) (omega arith) c.index-coefficients-at.is c.index-items-at.is in
    let s = c.in-Some.ensures in
    fits_step f c.args.coefficients.now c.args.items.now c.loop-at.sum c.in-Some.next c.ends.result c.ends-in-loop-at.result c.loop-at.at c.index-coefficients-at.result c.index-items-at.result
    c.ends.ensures c.ends-in-loop-at.ensures m s.0 s.1 c.loop-at.invariant
