use Rattle.std.proofs.Common.{◌≡◌, ◌∙◌, sym}
use Rattle.xs_model.specs.Instance.{rows_of}
use Rattle.xs_compared.proofs.TestLemmas.{lists_are}
use Rattle.xs_compared.proofs.lists.holds_different_lists.Goals as goal

pub returns : goal.returns
returns c = let law = lists_are (rows_of c.args.a.now c.args.lists.now) in (λ h. law.1 (sym c.are_other.ensures ∙ h), λ h. c.are_other.ensures ∙ law.0 h)
