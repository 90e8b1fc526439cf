use Rattle.std.proofs.Common.{sym, ◌∙◌}
use Rattle.xs_words.proofs.CompactLemmas.{spelt_none, spelt_some}
use Rattle.xs_words.proofs.compact.is_spelt.Goals as goal

pub returns-in-Some : goal.returns-in-Some
returns-in-Some c = spelt_some c.args.word.now c.in-Some.missed c.is_spelling.result (sym c.in-Some.is ∙ c.judge_word.ensures) c.is_spelling.ensures

pub returns-in-None : goal.returns-in-None
returns-in-None c = spelt_none c.args.word.now (sym c.in-None.is ∙ c.judge_word.ensures)
