use Rattle.std.proofs.Common.{subst, sym, arith, rules, FitsSigned, pos, ◌-ℤ◌, ◌≤ℤ◌}
use Rattle.std.specs.Int.{w128}
use Rattle.std.proofs.lemmas.Int.{ints, to_z-of_z}
use Rattle.std.specs.Prelude.{IfSome, int_rem}
use Rattle.xf_num.specs.Span.{HoldsResults}
use Rattle.xf_num.proofs.Images.{rem-HoldsResults}
use Rattle.xf_num.proofs.span.Span.rem.Goals as goal

pub returns-clause-value : goal.returns-clause-value
returns-clause-value c =
    let a : FitsSigned w128 c.self.inside.hi = search rules in
    let b : FitsSigned w128 c.other.inside.hi = search rules in
    let q : pos 1 ≤ℤ c.other.inside.lo = search rules in
    let d : FitsSigned w128 (c.other.inside.hi -ℤ pos 1) = omega (arith, ints) in
    let v = simp to_z-of_z at c.min.ensures.value in
    search (rules, v)

pub returns-clause-holds : goal.returns-clause-holds
returns-clause-holds c =
    let h = rem-HoldsResults c.args.self c.args.other c.requires.dividend c.requires.divisor in
    subst (λ o. IfSome o (HoldsResults int_rem c.args.self c.args.other)) (sym (returns-clause-value c)) h
