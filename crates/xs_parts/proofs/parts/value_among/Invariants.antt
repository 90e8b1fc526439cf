use Rattle.std.proofs.Common.{◌≡◌, drop}
use Rattle.xs_parts.specs.Parts.{value_among}
use Rattle.xs_parts.proofs.parts.value_among.Given as goal

abbrev pub invariant-loop-pair : goal.invariant-loop-pair
invariant-loop-pair l = value_among (drop l.pair-index l.pairs) l.name ≡ value_among l.pairs l.name
