use Rattle.std.proofs.Common.{◌≡◌, drop}
use Rattle.xs_parts.specs.Parts.{part_in}
use Rattle.xs_parts.proofs.parts.part_in.Given as goal

abbrev pub invariant-loop-part : goal.invariant-loop-part
invariant-loop-part l = part_in l.name (drop l.part-index l.parts) ≡ part_in l.name l.parts
