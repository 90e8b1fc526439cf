use Rattle.std.proofs.Common.{ap, ◌∙◌}
use Rattle.std.specs.Result.{result_err}
use Rattle.xs_fields.proofs.NamingLemmas.{variable_missed}
use Rattle.xs_fields.proofs.variables.scan_word.Goals as goal

pub returns-clause-missed : goal.returns-clause-missed
returns-clause-missed c =
    c.earlier-missed.ensures.value
    ∙ variable_missed c.args.names.now c.args.word.now c.judge_word.result c.parted-value.result.1 c.judge_word.ensures (c.parted-value.ensures.missed ∙ ap result_err c.in_ok-reached.ensures)
