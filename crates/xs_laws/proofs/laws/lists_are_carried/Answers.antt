use Rattle.xs_laws.proofs.LexChain.{lists_are_carried}
use Rattle.xs_laws.proofs.laws.lists_are_carried.Goals as goal

pub returns : goal.returns
returns c = lists_are_carried
