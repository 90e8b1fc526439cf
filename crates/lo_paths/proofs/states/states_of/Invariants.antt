use Rattle.std.proofs.Common.{◌≡◌, drop}
use Rattle.lo_paths.proofs.Targets.{adds}
use Rattle.lo_paths.proofs.states.states_of.Given as goal
use Rattle.xs_paths.specs.Layers.{once}

abbrev pub invariant-loop-state : goal.invariant-loop-state
invariant-loop-state l = adds l.states (drop l.state-index l.list) ≡ once l.list
