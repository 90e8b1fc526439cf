use Rattle.std.proofs.Common.{◌≡◌, ◌∙◌, sym}
use Rattle.xs_model.specs.Instance.{values}
use Rattle.xs_compared.proofs.TestLemmas.{equal_is}
use Rattle.xs_compared.proofs.neighbours.holds_equal.Goals as goal

pub returns : goal.returns
returns c = let law = equal_is (values c.args.a.now c.args.list.now) in (λ h. law.1 (sym c.are_equal.ensures ∙ h), λ h. c.are_equal.ensures ∙ law.0 h)
