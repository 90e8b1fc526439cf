use Rattle.fz_grammar.proofs.Alone.{only_misfit, only_deep}
use Rattle.fz_grammar.proofs.Once.{one_answer}
use Rattle.fz_grammar.proofs.Tops.{answers_of, only_of}
use Rattle.fz_grammar.proofs.syntax.read_syntax.Goals as goal

pub returns-clause-answers : goal.returns-clause-answers
returns-clause-answers c = answers_of _ _ c.whole.ensures.value

pub returns-clause-only : goal.returns-clause-only
returns-clause-only c = only_of _ _ c.whole.ensures.value

pub returns-clause-misfit : goal.returns-clause-misfit
returns-clause-misfit c = only_misfit _ _ (answers_of _ _ c.whole.ensures.value)

pub returns-clause-deep : goal.returns-clause-deep
returns-clause-deep c = only_deep _ _ (answers_of _ _ c.whole.ensures.value)

pub returns-clause-one : goal.returns-clause-one
returns-clause-one c = λ r is low placed. one_answer _ c.whole.result r (answers_of _ _ c.whole.ensures.value) (only_of _ _ c.whole.ensures.value r.syntax is) c.whole.ensures.places low placed
