use Rattle.xs_laws.proofs.LexTest.{lex_is_tested}
use Rattle.xs_laws.proofs.laws.lex_is_tested.Goals as goal

pub returns : goal.returns
returns c = lex_is_tested
