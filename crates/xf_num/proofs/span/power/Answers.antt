use Rattle.std.proofs.Common.{subst, sym}
use Rattle.std.specs.Prelude.{FitsSigned, SomeIff}
use Rattle.std.specs.Int.{w128}
use Rattle.std.proofs.lemmas.Int.{to_z-of_z}
use Rattle.xf_num.proofs.Powers.{pow-signed}
use Rattle.xf_num.proofs.span.power.Goals as goal

pub returns : goal.returns
returns c =
    let f : FitsSigned w128 c.args.base = c.ranges.base in
    subst (λ z. SomeIff c.checked_pow.result (FitsSigned w128 z) z) (sym (pow-signed c.args.base c.args.exponent)) (simp to_z-of_z at c.checked_pow.ensures)
