use Rattle.std.proofs.Common.{◌≡◌, drop}
use Rattle.std.specs.List.{list_all}
use Rattle.fz_values.specs.Integers.{is_small}
use Rattle.fz_values.proofs.value.are_small_digits.Given as goal

abbrev pub invariant-loop-item : goal.invariant-loop-item
invariant-loop-item l = list_all is_small (drop l.item-index l.items) ≡ list_all is_small l.items
