use Rattle.std.proofs.Common.{◌≡◌, ◌+◌, drop, map, length}
use Rattle.xs_model.specs.Fields.{occurrence_items}
use Rattle.xs_model.specs.Formed.{total}
use Rattle.xs_forms.proofs.items.count_each.Given as goal

abbrev pub invariant-loop-occurrence : goal.invariant-loop-occurrence
invariant-loop-occurrence l = l.count + total (map (λ o. length (occurrence_items o)) (drop l.occurrence-index l.occurrences)) ≡ total (map (λ o. length (occurrence_items o)) l.occurrences)
