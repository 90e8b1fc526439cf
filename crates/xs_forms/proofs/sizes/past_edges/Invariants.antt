use Rattle.std.proofs.Common.{◌≡◌, ◌≤◌, ◌^◌, drop, max}
use Rattle.xs_model.specs.Fitting.{ends_of}
use Rattle.xs_forms.specs.Room.{past_states}
use Rattle.xs_forms.proofs.sizes.past_edges.Given as goal

abbrev pub invariant-loop-edge : goal.invariant-loop-edge
invariant-loop-edge l = record {
  past : max l.past (past_states (ends_of (drop l.edge-index l.edges))) ≡ past_states (ends_of l.edges);
  few : l.past ≤ 2 ^ 32;
}
