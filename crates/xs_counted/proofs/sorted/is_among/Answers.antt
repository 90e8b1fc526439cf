use Rattle.xs_counted.proofs.CountLemmas.{occurs_is}
use Rattle.xs_counted.proofs.sorted.is_among.Goals as goal

pub returns : goal.returns
returns c = occurs_is c.args.value.now c.args.sorted.now c.how_often.result c.how_often.ensures
