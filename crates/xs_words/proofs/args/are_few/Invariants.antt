use Rattle.std.proofs.Common.{◌≡◌, length}
use Rattle.std.specs.List.{list_all}
use Rattle.xs_words.specs.Args.{are_few, is_few}
use Rattle.xs_fields.specs.Words.{words_of}
use Rattle.xs_words.proofs.args.are_few.Given as goal

abbrev pub invariant-loop-word : goal.invariant-loop-word
invariant-loop-word l = list_all is_few (words_of l.rest) ≡ are_few l.text

abbrev pub decreases-loop-word : goal.decreases-loop-word
decreases-loop-word l = length l.rest
