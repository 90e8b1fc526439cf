use Rattle.xs_fields.proofs.CellLemmas.{not_inside}
use Rattle.xs_fields.proofs.cells.are_inside.Goals as goal

pub returns-then-sizes-brackets : goal.returns-then-sizes-brackets
returns-then-sizes-brackets c = not_inside c.args.sizes.now c.args.brackets.now c.if-sizes-brackets.true
