use Rattle.std.proofs.Common.{ap, ◌∙◌}
use Rattle.std.specs.Result.{result_err}
use Rattle.xs_fields.specs.Variables.{bracket_of, is_small_bracket}
use Rattle.xs_fields.proofs.OrderLemmas.{judged_missed}
use Rattle.xs_fields.proofs.variable.judge_bracket.Goals as goal

pub returns : goal.returns
returns c = c.err.ensures.value ∙ ap result_err c.read_bracket.ensures ∙ judged_missed is_small_bracket (bracket_of c.args.part.now)
