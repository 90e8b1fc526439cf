use Rattle.std.proofs.Common.{◌≡◌, ◌≤◌, ◌^◌, drop, max}
use Rattle.xs_forms.specs.Room.{most_states}
use Rattle.xs_forms.proofs.sizes.most_states.Given as goal

abbrev pub invariant-loop-constraint : goal.invariant-loop-constraint
invariant-loop-constraint l = record {
  most : max l.most (most_states (drop l.constraint-index l.constraints)) ≡ most_states l.constraints;
  few : l.most ≤ 2 ^ 32;
}
