use Rattle.xs_judge.proofs.Fields.{are_bounded}
use Rattle.xs_judge.proofs.judging.judge.Goals as goal

pub judge_magnitude-requires-in_default : goal.judge_magnitude-requires-in_default
judge_magnitude-requires-in_default c = record {
  formed = c.requires;
  bounded = are_bounded c.args.spans.now c.args.c.now (λ e is. absurd (c.in_default.not-Intension e is));
}
