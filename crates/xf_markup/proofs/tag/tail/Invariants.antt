use Rattle.std.proofs.Common.{◌≡◌, ◌+◌, ◌-◌, ◌≤◌, length}
use Rattle.xf_markup.specs.Tag.{tail_at, with_front}
use Rattle.xf_markup.proofs.tag.tail.Given as goal

abbrev pub invariant-loop-is_empty : goal.invariant-loop-is_empty
invariant-loop-is_empty l = record {
  room : length l.rest + length l.out ≤ length l.bytes;
  read : with_front l.out (tail_at (length l.bytes + 1 - length l.out) l.rest) ≡ tail_at (length l.bytes + 1) l.bytes;
}

abbrev pub decreases-loop-is_empty : goal.decreases-loop-is_empty
decreases-loop-is_empty l = length l.rest
