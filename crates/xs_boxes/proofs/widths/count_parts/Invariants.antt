use Rattle.std.proofs.Common.{◌≡◌, ◌+◌, ◌≤◌, length}
use Rattle.std.specs.Option.{option_map}
use Rattle.xs_fields.specs.Words.{is_byte, left_len, parts, parts_behind}
use Rattle.xs_boxes.proofs.widths.count_parts.Given as goal

abbrev pub invariant-loop-rest : goal.invariant-loop-rest
invariant-loop-rest l = record {
  so_far : l.count + length (parts_behind (is_byte 44) (option_map (λ x. x.now) l.rest)) ≡ length (parts (is_byte 44) l.inner);
  within : l.count + left_len (option_map (λ x. x.now) l.rest) ≤ length l.inner + 1;
}

abbrev pub decreases-loop-rest : goal.decreases-loop-rest
decreases-loop-rest l = left_len (option_map (λ x. x.now) l.rest)
