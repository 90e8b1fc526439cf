use Rattle.std.proofs.Common.{◌≡◌, drop}
use Rattle.fz_items.specs.Conditions.{in_order}
use Rattle.fz_items.specs.Outcome.{items_outcome}
use Rattle.fz_items.proofs.items.read_items.Given as goal

abbrev pub invariant-loop-at : goal.invariant-loop-at
invariant-loop-at l = items_outcome in_order l.bound l.size l.progress (drop l.at l.items) (drop l.at l.lefts) ≡ items_outcome in_order l.bound l.size l.fn.progress l.items l.lefts
