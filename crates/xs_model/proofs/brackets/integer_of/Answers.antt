use Rattle.xs_model.proofs.BracketLemmas.{integer_utf8}
use Rattle.xs_model.proofs.brackets.integer_of.Goals as goal

pub returns-in-Err : goal.returns-in-Err
returns-in-Err c = λ h. c.in-Err.ensures.cases.0 (integer_utf8 c.args.text.now h.0)
