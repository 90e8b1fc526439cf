use Rattle.std.proofs.Common.{◌≡◌, ◌∙◌, sym}
use Rattle.xs_compared.proofs.LineLemmas.{lines_are}
use Rattle.xs_compared.proofs.different.holds_different_matrix.Goals as goal

pub returns-clause-value : goal.returns-clause-value
returns-clause-value c =
    let law = lines_are c.args.a.now c.args.rows.now in
    (λ h. law.1 (sym c.are_lines_different.ensures.value ∙ h), λ h. c.are_lines_different.ensures.value ∙ law.0 h)
