use Rattle.std.proofs.Common.{◌≡◌, ◌∙◌, sym}
use Rattle.xs_model.specs.Lists.{width}
use Rattle.xs_compared.proofs.LineLemmas.{lines_in_order}
use Rattle.xs_compared.proofs.orders.holds_lex_matrix.Goals as goal

pub returns : goal.returns
returns c =
    let law = lines_in_order c.args.rel c.args.a.now (width c.args.rows.now) c.args.rows.now c.requires.even in
    (λ h. law.1 (sym c.are_lines_in_order.ensures ∙ h), λ h. c.are_lines_in_order.ensures ∙ law.0 h)
