use Rattle.std.proofs.Common.{◌≡◌, ◌++◌, drop}
use Rattle.std.specs.List.{flat_map}
use Rattle.fz_file.specs.Layout.{call_line, names_of}
use Rattle.fz_file.proofs.model.push_calls.Given as goal

abbrev pub invariant-loop-call : goal.invariant-loop-call
invariant-loop-call l = l.out.items ++ flat_map (call_line (names_of l.named)) (drop l.call-index l.calls) ≡ l.fn.out.items ++ flat_map (call_line (names_of l.named)) l.calls
