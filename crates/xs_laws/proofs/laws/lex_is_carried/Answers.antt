use Rattle.xs_laws.proofs.LexChain.{lex_is_carried}
use Rattle.xs_laws.proofs.laws.lex_is_carried.Goals as goal

pub returns : goal.returns
returns c = lex_is_carried
