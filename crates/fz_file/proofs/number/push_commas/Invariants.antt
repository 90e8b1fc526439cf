use Rattle.std.proofs.Common.{◌≡◌, ◌++◌, drop}
use Rattle.fz_file.specs.Layout.{commas, numbers}
use Rattle.fz_file.proofs.number.push_commas.Given as goal

abbrev pub invariant-loop-value : goal.invariant-loop-value
invariant-loop-value l = l.out.items ++ commas (numbers (drop l.value-index l.values)) ≡ l.fn.out.items ++ commas (numbers l.values)
