use Rattle.std.proofs.Common.{sym, ap, ◌∙◌}
use Rattle.xs_fields.specs.Cells.{variables_of}
use Rattle.xs_notation.specs.Terms.{settled, variable_in}
use Rattle.xs_notation.proofs.MissedLemmas.{direct-first, direct-settled}
use Rattle.xs_notation.proofs.term.variable.Goals as goal

pub returns-in-Some : goal.returns-in-Some
returns-in-Some c = direct-settled c.args.names.now c.args.word.now c.in-Some.variable c.in-Some.ensures.missed c.in-Some.ensures.indices c.in-Some.ensures.value

pub returns-in-Some-judge_direct : goal.returns-in-Some-judge_direct
returns-in-Some-judge_direct c =
    ap (λ o. settled o (variable_in (variables_of c.args.names.now c.args.word.now)))
    (direct-first c.args.names.now c.args.word.now c.in-Some-judge_direct.missed (sym c.judge_direct.ensures ∙ c.in-Some-judge_direct.is))
