use Rattle.std.proofs.Common.{◌≡◌, ◌∙◌, sym}
use Rattle.xs_model.specs.Instance.{values}
use Rattle.xs_compared.proofs.TestLemmas.{different_is}
use Rattle.xs_compared.proofs.different.holds_different.Goals as goal

pub returns-clause-value : goal.returns-clause-value
returns-clause-value c =
    let law = different_is c.args.except.now (values c.args.a.now c.args.list.now) in
    (λ h. law.1 (sym c.is_different.ensures.value ∙ h), λ h. c.is_different.ensures.value ∙ law.0 h)
