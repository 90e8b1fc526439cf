use Rattle.std.proofs.Common.{◌≡◌, ◌≤◌, replicate, take, false}
use Rattle.std.specs.Prelude.{not}
use Rattle.xs_forms.specs.Room.{IsAsLong, flags_in}
use Rattle.xs_automata.proofs.holds.clear.Given as goal

abbrev pub invariant-loop-state : goal.invariant-loop-state
invariant-loop-state l = record {
  within : l.state ≤ l.count;
  value : take l.state (flags_in l.second l.scratch) ≡ replicate l.state false;
  other : flags_in (not l.second) l.scratch ≡ flags_in (not l.second) l.fn.scratch;
  long : IsAsLong l.fn.scratch l.scratch;
}
