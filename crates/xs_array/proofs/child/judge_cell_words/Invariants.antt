use Rattle.std.proofs.Common.{◌≡◌, length}
use Rattle.xs_fields.specs.Conditions.{all_meet, earlier_of, first_missed}
use Rattle.xs_fields.specs.Words.{words_of}
use Rattle.xs_array.specs.DomainChild.{cell_word_meets, cell_words_meet}
use Rattle.xs_array.proofs.child.judge_cell_words.Given as goal

abbrev pub invariant-loop-word : goal.invariant-loop-word
invariant-loop-word l = earlier_of l.missed (first_missed (all_meet (cell_word_meets l.name l.sizes) (words_of l.rest))) ≡ first_missed (cell_words_meet l.name l.sizes l.text)

abbrev pub decreases-loop-word : goal.decreases-loop-word
decreases-loop-word l = length l.rest
