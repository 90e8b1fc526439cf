use Rattle.std.proofs.Common.{◌≡◌, ◌++◌, length}
use Rattle.std.specs.List.{flat_map}
use Rattle.xs_words.specs.Args.{args_of, word_args}
use Rattle.xs_fields.specs.Words.{words_of}
use Rattle.xs_words.proofs.args.expand_args.Given as goal

abbrev pub invariant-loop-word : goal.invariant-loop-word
invariant-loop-word l = l.words ++ flat_map (word_args l.names) (words_of l.rest) ≡ args_of l.names l.text

abbrev pub decreases-loop-word : goal.decreases-loop-word
decreases-loop-word l = length l.rest
