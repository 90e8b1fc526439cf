use Rattle.std.proofs.Common.{ap, ◌∙◌}
use Rattle.xs_fields.proofs.OrderLemmas.{missed_more}
use Rattle.xs_fields.specs.Conditions.{all_meet, earlier_of, first_missed}
use Rattle.xs_fields.specs.Words.{words_of}
use Rattle.xs_array.specs.DomainChild.{cell_word_meets, cell_words_meet}
use Rattle.xs_array.proofs.child.judge_cell_words.Goals as goal

pub loop-word-preserved : goal.loop-word-preserved
loop-word-preserved c =
    let test = cell_word_meets c.args.name.now c.args.sizes.now in
    ap (λ m. earlier_of m (first_missed (all_meet test (words_of c.in-Some.more.now)))) c.earlier-missed.ensures.value
    ∙ missed_more test c.loop-word.missed c.in_ok-judged.judged (first_missed (cell_words_meet c.args.name.now c.args.sizes.now c.args.text.now)) (words_of c.loop-word.rest.now) (words_of c.in-Some.more.now) c.in-Some.word.now c.in-Some.ensures.value c.in_ok-judged.ensures c.loop-word.invariant
