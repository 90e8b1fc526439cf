use Rattle.std.proofs.Common.{◌≡◌, ◌∙◌, sym}
use Rattle.xs_model.specs.Instance.{values}
use Rattle.xs_compared.proofs.TestLemmas.{same_is}
use Rattle.xs_compared.proofs.lists.holds_given.Goals as goal

pub returns : goal.returns
returns c = let law = same_is (values c.args.a.now c.args.list.now) c.args.given.now in (λ h. law.1 (sym c.is_given.ensures ∙ h), λ h. c.is_given.ensures ∙ law.0 h)
