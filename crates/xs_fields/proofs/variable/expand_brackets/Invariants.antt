use Rattle.std.proofs.Common.{◌≡◌, ◌++◌}
use Rattle.std.specs.List.{flat_map}
use Rattle.std.specs.Option.{option_map}
use Rattle.xs_fields.specs.Variables.{brackets_from}
use Rattle.xs_fields.specs.Words.{is_byte, left_len, parts_behind}
use Rattle.xs_fields.proofs.variable.expand_brackets.Given as goal

abbrev pub invariant-loop-rest : goal.invariant-loop-rest
invariant-loop-rest l =
    l.brackets ++ flat_map brackets_from (parts_behind (is_byte 91) (option_map (λ x. x.now) l.rest)) ≡ flat_map brackets_from (parts_behind (is_byte 91) (option_map (λ x. x.now) l.behind))

abbrev pub decreases-loop-rest : goal.decreases-loop-rest
decreases-loop-rest l = left_len (option_map (λ x. x.now) l.rest)
