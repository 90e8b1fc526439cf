use Rattle.std.proofs.Common.{◌∙◌}
use Rattle.xs_counted.proofs.CountLemmas.{run_length}
use Rattle.xs_counted.proofs.sorted.how_often.Goals as goal

pub returns : goal.returns
returns c = c.saturating_sub.ensures ∙ run_length c.args.value.now c.args.sorted.now c.cut-from.result c.cut-to.result c.cut-from.ensures c.cut-to.ensures
