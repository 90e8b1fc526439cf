use Rattle.std.proofs.Common.{◌≡◌, ◌≤◌, ◌+◌, length, drop}
use Rattle.xs_parts.specs.Parts.{parts_named}
use Rattle.xs_parts.proofs.parts.count_named.Given as goal

abbrev pub invariant-loop-part : goal.invariant-loop-part
invariant-loop-part l = record {
  few : l.count ≤ l.part-index;
  so_far : l.count + length (parts_named l.name (drop l.part-index l.parts)) ≡ length (parts_named l.name l.parts);
}
