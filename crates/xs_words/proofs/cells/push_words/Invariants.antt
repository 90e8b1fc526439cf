use Rattle.std.proofs.Common.{◌≡◌, ◌++◌, drop}
use Rattle.xs_words.specs.Compact.{words_at}
use Rattle.xs_words.proofs.cells.push_words.Given as goal

abbrev pub invariant-loop-place : goal.invariant-loop-place
invariant-loop-place l = l.words ++ words_at l.names l.name l.at (drop l.place-index l.places) ≡ l.initial.words ++ words_at l.names l.name l.at l.places
