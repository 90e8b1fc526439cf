use Rattle.std.proofs.Common.{◌≡◌, ℕ, ℤ, FitsSigned, subst, ap, sym, ◌∙◌, rules, to_z, of_z}
use Rattle.std.specs.Int.{w128, int_pow}
use Rattle.xs_model.specs.Value.{exponent_of}
use Rattle.xs_expr.proofs.Powers.{power-signed}
use Rattle.xs_expr.proofs.worth.raised.Goals as goal

pub pow-requires : goal.pow-requires
pow-requires c =
    let same : to_z w128 (of_z w128 c.args.times) ≡ c.args.times = search rules in
    let base : to_z w128 (of_z w128 c.args.base) ≡ c.args.base = search rules in
    let k : c.exponent.result ≡ exponent_of c.args.times = c.exponent.ensures.value ∙ ap exponent_of same in
    let fits : FitsSigned w128 (int_pow c.args.base c.exponent.result) = subst (λ (k : ℕ). FitsSigned w128 (int_pow c.args.base k)) (sym k)
    (subst (FitsSigned w128) (power-signed c.args.base (exponent_of c.args.times)) c.requires.fits) in
    subst (λ (b : ℤ). FitsSigned w128 (int_pow b c.exponent.result)) (sym base) fits

pub returns : goal.returns
returns c =
    let is = power-signed c.args.base (exponent_of c.args.times) in
    search rules
