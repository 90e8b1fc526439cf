use Rattle.xs_fields.specs.Conditions.{all_meet}
use Rattle.xs_fields.specs.Sizes.{brackets_of, size_meets}
use Rattle.xs_fields.specs.Variables.{word_meets}
use Rattle.xs_conditions.proofs.single.judge_direct.Goals as goal

pub returns : goal.returns
returns c = c.earlier.ensures.joins (word_meets c.args.word.now) (all_meet size_meets (brackets_of c.args.word.now)) c.judge_word.ensures c.judge_indices.ensures
