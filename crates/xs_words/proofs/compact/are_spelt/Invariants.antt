use Rattle.std.proofs.Common.{◌≡◌, length}
use Rattle.std.specs.List.{list_all}
use Rattle.xs_fields.specs.Words.{words_of}
use Rattle.xs_words.specs.Compact.{are_spelt, is_spelt}
use Rattle.xs_words.proofs.compact.are_spelt.Given as goal

abbrev pub invariant-loop-word : goal.invariant-loop-word
invariant-loop-word l = list_all is_spelt (words_of l.rest) ≡ are_spelt l.text

abbrev pub decreases-loop-word : goal.decreases-loop-word
decreases-loop-word l = length l.rest
