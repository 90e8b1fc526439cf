use Rattle.std.proofs.Common.{◌≡◌, ◌++◌, codes, drop, map}
use Rattle.std.specs.List.{flat_map}
use Rattle.xs_language.specs.Written.{range_text, ranges_text}
use Rattle.xs_language.proofs.write.write_ranges.Given as goal

abbrev pub invariant-loop-span : goal.invariant-loop-span
invariant-loop-span l = l.out.items ++ flat_map (λ w. w ++ codes " ") (map range_text (drop l.span-index l.spans)) ≡ l.fn.out.items ++ ranges_text l.spans
