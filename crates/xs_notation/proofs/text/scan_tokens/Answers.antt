use Rattle.std.proofs.Common.{sym, subst, ◌∙◌}
use Rattle.xs_model.specs.Formed.{IsFormedExpr}
use Rattle.xs_model.specs.Outline.{variables_in}
use Rattle.xs_notation.proofs.FormedLemmas.{formed-expr}
use Rattle.xs_notation.proofs.text.scan_tokens.Goals as goal

pub returns-in_ok-reading-in-Some-clause-formed : goal.returns-in_ok-reading-in-Some-clause-formed
returns-in_ok-reading-in-Some-clause-formed c = λ h.
    subst (IsFormedExpr (variables_in c.args.names.now)) (sym c.in_ok-reading-in-Some.ensures.value)
    (formed-expr c.args.names.now c.in-Some.raw (sym c.in_ok-reading-in-Some.ensures.missed ∙ h))
