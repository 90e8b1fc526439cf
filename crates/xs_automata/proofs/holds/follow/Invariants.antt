use Rattle.std.proofs.Common.{◌≡◌, drop, take}
use Rattle.std.specs.Prelude.{fold, not}
use Rattle.xs_forms.specs.Room.{IsAsLong, flags_in}
use Rattle.xs_model.specs.Value.{at}
use Rattle.xs_paths.specs.Flags.{flags_after, marked}
use Rattle.xs_automata.proofs.holds.follow.Given as goal

abbrev pub invariant-loop-edge : goal.invariant-loop-edge
invariant-loop-edge l = record {
  value : fold (marked (take l.count (flags_in l.second l.fn.scratch)) (at l.a l.variable)) (take l.count (flags_in (not l.second) l.scratch)) (drop l.edge-index l.edges) ≡ flags_after l.count l.edges (take l.count (flags_in l.second l.fn.scratch)) (at l.a l.variable);
  other : flags_in l.second l.scratch ≡ flags_in l.second l.fn.scratch;
  long : IsAsLong l.fn.scratch l.scratch;
}
