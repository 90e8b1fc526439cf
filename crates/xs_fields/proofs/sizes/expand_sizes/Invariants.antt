use Rattle.std.proofs.Common.{◌≡◌, ◌++◌}
use Rattle.std.specs.List.{flat_map}
use Rattle.std.specs.Option.{option_map}
use Rattle.xs_fields.specs.Sizes.{size_list, sizes_of}
use Rattle.xs_fields.specs.Words.{is_byte, left_len, parts_behind}
use Rattle.xs_fields.proofs.sizes.expand_sizes.Given as goal

abbrev pub invariant-loop-rest : goal.invariant-loop-rest
invariant-loop-rest l = l.sizes ++ flat_map size_list (parts_behind (is_byte 91) (option_map (λ x. x.now) l.rest)) ≡ sizes_of l.text

abbrev pub decreases-loop-rest : goal.decreases-loop-rest
decreases-loop-rest l = left_len (option_map (λ x. x.now) l.rest)
