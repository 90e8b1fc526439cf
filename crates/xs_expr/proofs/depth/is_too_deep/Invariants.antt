use Rattle.std.proofs.Common.{◌≤◌, drop}
use Rattle.xs_expr.specs.Depth.{levels, IsDeeper}
use Rattle.xs_expr.proofs.depth.is_too_deep.Given as goal

abbrev pub invariant-loop-byte : goal.invariant-loop-byte
invariant-loop-byte l = record {
  shallow : l.level ≤ levels;
  whole : IsDeeper l.level (drop l.byte-index l.text) → IsDeeper 0 l.text;
  left : IsDeeper 0 l.text → IsDeeper l.level (drop l.byte-index l.text);
}
