use Rattle.std.proofs.Common.{get_or, sym, ap, ◌∙◌}
use Rattle.xs_fields.specs.Words.{is_space, words_of}
use Rattle.xs_fields.proofs.PartLemmas.{words_past_first, words_none, word_begins}
use Rattle.xs_fields.proofs.words.next_word.Goals as goal

pub front_word-requires-clause-front : goal.front_word-requires-clause-front
front_word-requires-clause-front c =
    ap (λ ys. is_space (get_or ys 0 0)) c.from.ensures ∙ word_begins c.args.bytes.now c.in-Some.start (sym c.in-Some.ensures)

pub returns-in-Some-clause-value : goal.returns-in-Some-clause-value
returns-in-Some-clause-value c =
    sym (words_past_first c.args.bytes.now c.in-Some.start (sym c.in-Some.ensures)) ∙ ap words_of (sym c.from.ensures) ∙ c.front_word.ensures.value

pub returns-in-None-clause-value : goal.returns-in-None-clause-value
returns-in-None-clause-value c = words_none c.args.bytes.now (sym c.in-None.ensures)
