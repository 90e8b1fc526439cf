use Rattle.fz_again.proofs.Whole as whole
use Rattle.fz_again.proofs.laws.reads_as_tree.Goals as goal

pub returns : goal.returns
returns c = record { tree = whole.reads_as_tree; items = whole.has_items }
