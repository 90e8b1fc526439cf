use Rattle.std.proofs.Common.{◌≡◌}
use Rattle.std.specs.Option.{option_map}
use Rattle.xs_fields.specs.Conditions.{all_meet, earlier_of, first_missed}
use Rattle.xs_fields.specs.Variables.{bracket_meets}
use Rattle.xs_fields.specs.Words.{is_byte, left_len, parts_behind}
use Rattle.xs_fields.proofs.variable.judge_brackets.Given as goal

abbrev pub invariant-loop-rest : goal.invariant-loop-rest
invariant-loop-rest l =
    earlier_of l.missed (first_missed (all_meet bracket_meets (parts_behind (is_byte 91) (option_map (λ x. x.now) l.rest)))) ≡ first_missed (all_meet bracket_meets (parts_behind (is_byte 91) (option_map (λ x. x.now) l.behind)))

abbrev pub decreases-loop-rest : goal.decreases-loop-rest
decreases-loop-rest l = left_len (option_map (λ x. x.now) l.rest)
