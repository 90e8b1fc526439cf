use Rattle.std.proofs.Common.{◌≡◌, drop, map}
use Rattle.std.specs.List.{list_all}
use Rattle.fz_values.specs.Values.{are_small}
use Rattle.fz_values.proofs.value.+small.Given as goal

abbrev pub invariant-are_all_small-loop-item : goal.invariant-are_all_small-loop-item
invariant-are_all_small-loop-item l = list_all (λ b. b) (map are_small (drop l.item-index l.items)) ≡ list_all (λ b. b) (map are_small l.items)
