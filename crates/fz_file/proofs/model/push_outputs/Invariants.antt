use Rattle.std.proofs.Common.{◌≡◌, ◌++◌, drop}
use Rattle.std.specs.List.{flat_map}
use Rattle.fz_file.specs.Layout.{output_line, names_of}
use Rattle.fz_file.proofs.model.push_outputs.Given as goal

abbrev pub invariant-loop-output : goal.invariant-loop-output
invariant-loop-output l = l.out.items ++ flat_map (output_line (names_of l.named)) (drop l.output-index l.outputs) ≡ l.fn.out.items ++ flat_map (output_line (names_of l.named)) l.outputs
