use Rattle.std.proofs.Common.{sym, ◌∙◌}
use Rattle.xs_conditions.proofs.IndexLemmas.{none_begins, some_begins}
use Rattle.xs_conditions.proofs.single.judge_indices.Goals as goal

pub returns-in-Some : goal.returns-in-Some
returns-in-Some c = c.judge_sizes.ensures ∙ some_begins c.args.word.now c.from.result.now c.in-Some.start (sym c.in-Some.ensures) c.from.ensures

pub returns-in-None : goal.returns-in-None
returns-in-None c = none_begins c.args.word.now (sym c.in-None.ensures)
