use Rattle.std.proofs.Common.{◌≡◌, ◌++◌, drop}
use Rattle.std.specs.List.{flat_map}
use Rattle.fz_file.specs.Layout.{commas, numbers, integers_of}
use Rattle.fz_file.proofs.number.push_ranges.Given as goal

abbrev pub invariant-loop-span : goal.invariant-loop-span
invariant-loop-span l = l.out.items ++ commas (numbers (flat_map integers_of (drop l.span-index l.spans))) ≡ l.initial.out.items ++ commas (numbers (flat_map integers_of l.spans))
