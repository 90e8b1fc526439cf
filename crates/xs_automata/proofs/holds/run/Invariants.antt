use Rattle.std.proofs.Common.{◌≡◌, drop, take}
use Rattle.std.specs.Prelude.{fold}
use Rattle.xs_forms.specs.Room.{IsAsLong, flags_in}
use Rattle.xs_model.specs.Instance.{values}
use Rattle.xs_paths.specs.Flags.{end_flags, flags_after}
use Rattle.xs_automata.proofs.holds.run.Given as goal

abbrev pub invariant-loop-variable : goal.invariant-loop-variable
invariant-loop-variable l = record {
  value : fold (flags_after l.count l.edges) (take l.count (flags_in l.second l.scratch)) (values l.a (drop l.variable-index l.list)) ≡ end_flags l.count l.edges l.start (values l.a l.list);
  long : IsAsLong l.fn.scratch l.scratch;
}
