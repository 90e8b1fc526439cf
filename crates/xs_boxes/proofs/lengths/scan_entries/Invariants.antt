use Rattle.std.proofs.Common.{◌≡◌, ◌++◌, ◌+◌, None, length, map}
use Rattle.std.specs.Option.{option_map}
use Rattle.xs_conditions.specs.Single.{single_meets, single_of}
use Rattle.xs_fields.specs.Conditions.{all_meet, earlier_of, first_missed}
use Rattle.xs_fields.specs.Words.{is_byte, left_len, parts, parts_behind}
use Rattle.xs_boxes.proofs.lengths.scan_entries.Given as goal

abbrev pub invariant-loop-rest : goal.invariant-loop-rest
invariant-loop-rest l = record {
  missed : earlier_of l.missed (first_missed (all_meet (single_meets l.names) (parts_behind (is_byte 44) (option_map (λ x. x.now) l.rest)))) ≡ first_missed (all_meet (single_meets l.names) (parts (is_byte 44) l.inner));
  value : l.missed ≡ None → l.entries ++ map (single_of l.names) (parts_behind (is_byte 44) (option_map (λ x. x.now) l.rest)) ≡ map (single_of l.names) (parts (is_byte 44) l.inner);
  width : length l.entries + length (parts_behind (is_byte 44) (option_map (λ x. x.now) l.rest)) ≡ length (parts (is_byte 44) l.inner);
}

abbrev pub decreases-loop-rest : goal.decreases-loop-rest
decreases-loop-rest l = left_len (option_map (λ x. x.now) l.rest)
