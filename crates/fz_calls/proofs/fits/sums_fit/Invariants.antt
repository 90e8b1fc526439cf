use Rattle.std.proofs.Common.{◌↔◌, pos, drop, map}
use Rattle.fz_model.specs.Limits.{exactly}
use Rattle.fz_calls.specs.Fits.{ends, SumsFit}
use Rattle.fz_calls.proofs.fits.sums_fit.Given as goal

abbrev pub invariant-loop-at : goal.invariant-loop-at
invariant-loop-at l = SumsFit l.sum (map (ends l.spans) (drop l.at l.coefficients)) (map (ends l.spans) (drop l.at l.items)) ↔ SumsFit (exactly (pos 0)) (map (ends l.spans) l.coefficients) (map (ends l.spans) l.items)
