use Rattle.std.proofs.Common.{◌≡◌, length}
use Rattle.xs_automata.proofs.ScanLemmas.{IsRead}
use Rattle.xs_tables.specs.Groups.{behind_of, groups_of}
use Rattle.xs_automata.proofs.transitions.scan_transitions.Given as goal

abbrev pub invariant-loop-group : goal.invariant-loop-group
invariant-loop-group l = record {
  read : IsRead l.fn.states l.text l.left l.missed l.edges l.states (groups_of l.rest);
  behind : behind_of l.rest ≡ behind_of l.text;
}

abbrev pub decreases-loop-group : goal.decreases-loop-group
decreases-loop-group l = length l.rest
