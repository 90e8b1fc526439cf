use Rattle.xf_markup.proofs.Alone.{one_place, one_deep_place, tree_is_read, not_tree_and_deep, not_unread_and_deep}
use Rattle.xf_markup.proofs.Unique.{one_tree}
use Rattle.xf_markup.proofs.read.one_outcome.Goals as goal

pub returns-clause-tree : goal.returns-clause-tree
returns-clause-tree c = one_tree

pub returns-clause-unread : goal.returns-clause-unread
returns-clause-unread c = one_place

pub returns-clause-deep : goal.returns-clause-deep
returns-clause-deep c = one_deep_place

pub returns-clause-tree_or_unread : goal.returns-clause-tree_or_unread
returns-clause-tree_or_unread c = λ text n p. tree_is_read n text p

pub returns-clause-tree_or_deep : goal.returns-clause-tree_or_deep
returns-clause-tree_or_deep c = λ text n p tree. not_tree_and_deep n text p tree.0 tree.1

pub returns-clause-unread_or_deep : goal.returns-clause-unread_or_deep
returns-clause-unread_or_deep c = not_unread_and_deep
