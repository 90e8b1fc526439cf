use Rattle.std.proofs.Common.{◌≡◌, ◌++◌, replicate}
use Rattle.xs_words.proofs.args.push_times.Given as goal

abbrev pub invariant-loop : goal.invariant-loop
invariant-loop l = l.words ≡ l.initial.words ++ replicate l.counter l.word
