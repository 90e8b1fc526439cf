use Rattle.std.proofs.Common.{sym, ◌∙◌}
use Rattle.xs_notation.proofs.MissedLemmas.{deep-first}
use Rattle.xs_notation.proofs.text.scan_text.Goals as goal

pub returns-in-Some-clause-missed : goal.returns-in-Some-clause-missed
returns-in-Some-clause-missed c = c.without.ensures ∙ deep-first c.args.names.now c.args.text.now c.in-Some.missed (sym c.judge_nesting.ensures ∙ c.in-Some.is)
