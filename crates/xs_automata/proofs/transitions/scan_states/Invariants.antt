use Rattle.std.proofs.Common.{length}
use Rattle.xs_automata.proofs.ScanLemmas.{IsListed}
use Rattle.xs_fields.specs.Words.{words_of}
use Rattle.xs_automata.proofs.transitions.scan_states.Given as goal

abbrev pub invariant-loop-name : goal.invariant-loop-name
invariant-loop-name l = IsListed l.fn.states l.text l.left l.missed l.numbers l.states (words_of l.rest)

abbrev pub decreases-loop-name : goal.decreases-loop-name
decreases-loop-name l = length l.rest
