use Rattle.std.proofs.Common.{◌≡◌, drop, map}
use Rattle.std.specs.List.{list_all}
use Rattle.fz_values.specs.Values.{is_known}
use Rattle.fz_values.proofs.value.+known.Given as goal

abbrev pub invariant-are_known-loop-item : goal.invariant-are_known-loop-item
invariant-are_known-loop-item l = list_all (λ b. b) (map (is_known l.names) (drop l.item-index l.items)) ≡ list_all (λ b. b) (map (is_known l.names) l.items)
