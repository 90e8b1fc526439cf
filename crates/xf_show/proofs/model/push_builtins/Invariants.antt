use Rattle.std.proofs.Common.{◌≡◌, ◌++◌, drop}
use Rattle.std.specs.List.{flat_map}
use Rattle.xf_show.specs.Summary.{builtin_line}
use Rattle.xf_show.proofs.model.push_builtins.Given as goal

abbrev pub invariant-loop-builtin : goal.invariant-loop-builtin
invariant-loop-builtin l = l.text ++ flat_map (builtin_line l.calls) (drop l.builtin-index l.builtins) ≡ l.fn.text ++ flat_map (builtin_line l.calls) l.builtins
