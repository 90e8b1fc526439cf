use Rattle.std.proofs.Common.{◌≡◌, length}
use Rattle.std.specs.List.{list_all}
use Rattle.xs_fields.specs.Words.{words_of}
use Rattle.xs_words.specs.Compact.{are_named, is_named}
use Rattle.xs_words.proofs.compact.are_named.Given as goal

abbrev pub invariant-loop-word : goal.invariant-loop-word
invariant-loop-word l = list_all (is_named l.names) (words_of l.rest) ≡ are_named l.names l.text

abbrev pub decreases-loop-word : goal.decreases-loop-word
decreases-loop-word l = length l.rest
