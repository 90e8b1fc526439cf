use Rattle.std.proofs.Common.{arith, ap, ℤ, rules, FitsSigned, ◌≡◌}
use Rattle.std.proofs.lemmas.Int.{ints, clamps, to_z-of_z}
use Rattle.std.specs.Int.{w128}
use Rattle.xf_num.specs.Span.{Bounds}
use Rattle.xf_num.proofs.Images.{same_ends}
use Rattle.xf_num.proofs.span.Span.above_zero.Goals as goal

abbrev lo_of : Bounds → ℤ
lo_of b = b.lo

abbrev hi_of : Bounds → ℤ
hi_of b = b.hi

pub invariant_of-result : goal.invariant_of-result
invariant_of-result c = grind (arith, ints, clamps, ap lo_of c.requires, ap hi_of c.requires)

pub returns : goal.returns
returns c = grind (arith, ints, clamps, ap lo_of c.requires, ap hi_of c.requires)
