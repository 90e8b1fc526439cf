use Rattle.std.proofs.Common.{◌≡◌, ◌∙◌, sym}
use Rattle.xs_model.specs.Instance.{rows_of}
use Rattle.xs_model.specs.Lists.{width}
use Rattle.xs_compared.proofs.LineLemmas.{long_rows, rows_in_order}
use Rattle.xs_compared.proofs.orders.holds_lex.Goals as goal

pub returns : goal.returns
returns c =
    let n = width c.args.lists.now in
    let law = rows_in_order c.args.rel n (rows_of c.args.a.now c.args.lists.now) (long_rows c.args.a.now n c.args.lists.now c.requires.even) in
    (λ h. law.1 (sym c.are_rows_in_order.ensures ∙ h), λ h. c.are_rows_in_order.ensures ∙ law.0 h)
