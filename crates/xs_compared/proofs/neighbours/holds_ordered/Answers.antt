use Rattle.std.proofs.Common.{◌≡◌, ◌∙◌, sym}
use Rattle.xs_model.specs.Instance.{term_values, values}
use Rattle.xs_compared.proofs.TestLemmas.{spaced_is}
use Rattle.xs_compared.proofs.neighbours.holds_ordered.Goals as goal

pub returns : goal.returns
returns c =
    let law = spaced_is c.args.rel (term_values c.args.a.now c.args.lengths.now) (values c.args.a.now c.args.list.now) in
    (λ h. law.1 (sym c.is_spaced.ensures ∙ h), λ h. c.is_spaced.ensures ∙ law.0 h)
