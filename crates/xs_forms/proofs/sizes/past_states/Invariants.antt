use Rattle.std.proofs.Common.{◌≡◌, ◌≤◌, ◌^◌, drop, max}
use Rattle.xs_forms.specs.Room.{past_states}
use Rattle.xs_forms.proofs.sizes.past_states.Given as goal

abbrev pub invariant-loop-state : goal.invariant-loop-state
invariant-loop-state l = record {
  past : max l.past (past_states (drop l.state-index l.states)) ≡ past_states l.states;
  few : l.past ≤ 2 ^ 32;
}
