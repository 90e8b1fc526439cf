use Rattle.std.proofs.Common.{◌≡◌}
use Rattle.std.specs.List.{list_all}
use Rattle.std.specs.Option.{option_map}
use Rattle.xs_fields.specs.Words.{is_byte, left_len, parts_behind}
use Rattle.xs_words.specs.Compact.{is_index_part}
use Rattle.xs_words.proofs.compact.are_index_parts.Given as goal

abbrev pub invariant-loop-rest : goal.invariant-loop-rest
invariant-loop-rest l = list_all is_index_part (parts_behind (is_byte 91) (option_map (λ x. x.now) l.rest)) ≡ list_all is_index_part (parts_behind (is_byte 91) (option_map (λ x. x.now) l.behind))

abbrev pub decreases-loop-rest : goal.decreases-loop-rest
decreases-loop-rest l = left_len (option_map (λ x. x.now) l.rest)
