use Rattle.std.proofs.Common.{◌≡◌, drop, map}
use Rattle.std.specs.Prelude.{int_le}
use Rattle.std.specs.List.{list_all}
use Rattle.fz_model.specs.Meaning.{number}
use Rattle.fz_calls.proofs.worth.none_is_less.Given as goal

abbrev pub invariant-loop-item : goal.invariant-loop-item
invariant-loop-item l = list_all (int_le l.value) (map (number l.b) (drop l.item-index l.items)) ≡ list_all (int_le l.value) (map (number l.b) l.items)
