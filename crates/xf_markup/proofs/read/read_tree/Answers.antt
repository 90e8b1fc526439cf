use Rattle.xf_markup.proofs.Exact.{only_tree, only_unread, only_deep}
use Rattle.xf_markup.proofs.read.read_tree.Goals as goal

pub returns-clause-tree : goal.returns-clause-tree
returns-clause-tree c = only_tree _ _ c.scan.ensures

pub returns-clause-unread : goal.returns-clause-unread
returns-clause-unread c = only_unread _ _ c.scan.ensures

pub returns-clause-deep : goal.returns-clause-deep
returns-clause-deep c = only_deep _ _ c.scan.ensures
