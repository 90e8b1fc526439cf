use Rattle.std.proofs.Common.{◌≡◌, drop, map}
use Rattle.fz_model.specs.Meaning.{number, differ, is_odd}
use Rattle.fz_calls.proofs.worth.is_odd.Given as goal

abbrev pub invariant-loop-item : goal.invariant-loop-item
invariant-loop-item l = differ l.odd (is_odd (map (number l.b) (drop l.item-index l.items))) ≡ is_odd (map (number l.b) l.items)
