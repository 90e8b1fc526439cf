use Rattle.std.proofs.Common.{sym, ◌∙◌}
use Rattle.xs_conditions.proofs.MissedLemmas.{direct_first}
use Rattle.xs_conditions.proofs.single.scan_direct.Goals as goal

pub returns-in-Some-judge_direct-clause-missed : goal.returns-in-Some-judge_direct-clause-missed
returns-in-Some-judge_direct-clause-missed c =
    direct_first c.args.names.now c.args.word.now c.in-Some-judge_direct.condition (sym c.judge_direct.ensures ∙ c.in-Some-judge_direct.is)
