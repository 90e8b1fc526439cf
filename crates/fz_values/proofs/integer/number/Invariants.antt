use Rattle.std.proofs.Common.{◌≡◌, ◌≤◌, drop}
use Rattle.fz_values.specs.Integers.{onward, limit}
use Rattle.fz_values.proofs.integer.number.Given as goal

abbrev pub invariant-loop-byte : goal.invariant-loop-byte
invariant-loop-byte l = record {
  so_far : onward l.base l.value (drop l.byte-index l.digits) ≡ onward l.base 0 l.digits;
  small : l.value ≤ limit;
}
