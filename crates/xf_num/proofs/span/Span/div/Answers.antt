use Rattle.std.proofs.Common.{rules, ◌≤ℤ◌, FitsSigned, ◌<ℤ◌, pos, arith}
use Rattle.std.specs.Int.{w128}
use Rattle.std.proofs.lemmas.Int.{ints, to_z-of_z, quot_is, quot_fits}
use Rattle.xf_num.proofs.Images.{div-IsHull, quotients}
use Rattle.xf_num.proofs.span.Span.div.Goals as goal

pub invariant_of-result : goal.invariant_of-result
invariant_of-result c =
    let a : FitsSigned w128 c.self.inside.lo = search rules in
    let b : FitsSigned w128 c.other.inside.hi = search rules in
    let x : FitsSigned w128 c.self.inside.hi = search rules in
    let y : FitsSigned w128 c.other.inside.lo = search rules in
    let p : pos 0 ≤ℤ c.self.inside.lo = search rules in
    let q : pos 1 ≤ℤ c.other.inside.lo = search rules in
    let low = quot_is w128 _ _ a b (quot_fits w128 _ _ a (omega (arith, ints))) in
    let high = quot_is w128 _ _ x y (quot_fits w128 _ _ x (omega (arith, ints))) in
    let h = quotients c.self.inside.lo c.other.inside.hi c.self.inside.hi c.other.inside.lo p c.self.invariant q c.other.invariant in
    omega (arith, ints, low, high, h)

pub returns-clause-hull : goal.returns-clause-hull
returns-clause-hull c = let h = div-IsHull c.args.self c.args.other (search rules) (search rules) c.requires.dividend c.requires.divisor in search rules
