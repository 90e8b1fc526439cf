use Rattle.std.proofs.Common.{◌≡◌, drop}
use Rattle.std.specs.List.{list_any}
use Rattle.xs_forms.specs.Room.{flags_in}
use Rattle.xs_paths.specs.Flags.{flag}
use Rattle.xs_automata.proofs.holds.is_flagged.Given as goal

abbrev pub invariant-loop-state : goal.invariant-loop-state
invariant-loop-state l = list_any (flag (flags_in l.second l.scratch)) (drop l.state-index l.states) ≡ list_any (flag (flags_in l.second l.scratch)) l.states
