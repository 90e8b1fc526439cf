use Rattle.std.proofs.Common.{◌≡◌, length}
use Rattle.std.specs.List.{list_all}
use Rattle.xs_fields.specs.Words.{words_of}
use Rattle.xs_parts.specs.Nesting.{are_words_shallow, is_shallow}
use Rattle.xs_parts.proofs.nesting.are_words_shallow.Given as goal

abbrev pub invariant-loop-word : goal.invariant-loop-word
invariant-loop-word l = list_all is_shallow (words_of l.rest) ≡ are_words_shallow l.text

abbrev pub decreases-loop-word : goal.decreases-loop-word
decreases-loop-word l = length l.rest
