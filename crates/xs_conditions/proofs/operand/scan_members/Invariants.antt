use Rattle.std.proofs.Common.{◌≡◌, ◌++◌}
use Rattle.std.specs.List.{flat_map}
use Rattle.std.specs.Option.{option_map}
use Rattle.xs_fields.specs.Conditions.{all_meet, earlier_of, first_missed}
use Rattle.xs_fields.specs.Words.{is_byte, left_len, parts, parts_behind}
use Rattle.xs_conditions.specs.Conditions.{member_meets, member_of}
use Rattle.xs_conditions.proofs.operand.scan_members.Given as goal

abbrev pub invariant-loop-rest : goal.invariant-loop-rest
invariant-loop-rest l = record {
  missed : earlier_of l.missed (first_missed (all_meet member_meets (parts_behind (is_byte 44) (option_map (λ x. x.now) l.rest)))) ≡ first_missed (all_meet member_meets (parts (is_byte 44) l.inner));
  value : l.set ++ flat_map member_of (parts_behind (is_byte 44) (option_map (λ x. x.now) l.rest)) ≡ flat_map member_of (parts (is_byte 44) l.inner);
}

abbrev pub decreases-loop-rest : goal.decreases-loop-rest
decreases-loop-rest l = left_len (option_map (λ x. x.now) l.rest)
