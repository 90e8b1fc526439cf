use Rattle.std.proofs.Common.{◌≡◌, drop, map}
use Rattle.std.specs.List.{list_any}
use Rattle.std.specs.Ordering.{int_eq}
use Rattle.fz_model.specs.Meaning.{number}
use Rattle.fz_calls.proofs.worth.some_is.Given as goal

abbrev pub invariant-loop-item : goal.invariant-loop-item
invariant-loop-item l = list_any (int_eq l.value) (map (number l.b) (drop l.item-index l.items)) ≡ list_any (int_eq l.value) (map (number l.b) l.items)
