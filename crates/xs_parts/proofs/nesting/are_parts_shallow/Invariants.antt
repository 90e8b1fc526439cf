use Rattle.std.proofs.Common.{◌≡◌, drop}
use Rattle.xs_parts.specs.Nesting.{are_parts_shallow}
use Rattle.xs_parts.proofs.nesting.are_parts_shallow.Given as goal

abbrev pub invariant-loop-part : goal.invariant-loop-part
invariant-loop-part l = are_parts_shallow (drop l.part-index l.parts) ≡ are_parts_shallow l.parts
