use Rattle.xs_laws.proofs.Lex.{lex_is_chain}
use Rattle.xs_laws.proofs.laws.lex_is_chain.Goals as goal

pub returns : goal.returns
returns c = lex_is_chain
