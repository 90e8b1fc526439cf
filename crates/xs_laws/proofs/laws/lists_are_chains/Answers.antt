use Rattle.xs_laws.proofs.Lex.{lists_are_chains}
use Rattle.xs_laws.proofs.laws.lists_are_chains.Goals as goal

pub returns : goal.returns
returns c = lists_are_chains
