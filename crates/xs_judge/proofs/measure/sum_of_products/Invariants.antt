use Rattle.std.proofs.Common.{◌≡◌, take}
use Rattle.xs_model.specs.Formed.{total}
use Rattle.xs_model.specs.Magnitude.{capped, product_magnitudes}
use Rattle.xs_judge.proofs.measure.sum_of_products.Given as goal

abbrev pub invariant-loop-at : goal.invariant-loop-at
invariant-loop-at l = l.sum ≡ capped (total (product_magnitudes l.spans (take l.at l.coeffs) (take l.at l.list)))
