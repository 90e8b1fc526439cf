use Rattle.std.proofs.Common.{◌≡◌, ◌++◌, drop, map, true}
use Rattle.fz_file.specs.Layout.{range_text}
use Rattle.fz_file.proofs.ListedLemmas.{listed_after}
use Rattle.fz_file.proofs.number.push_spans.Given as goal

abbrev pub invariant-loop-span : goal.invariant-loop-span
invariant-loop-span l = l.out.items ++ listed_after l.first (map range_text (drop l.span-index l.spans)) ≡ l.fn.out.items ++ listed_after true (map range_text l.spans)
