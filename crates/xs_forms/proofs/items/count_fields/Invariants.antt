use Rattle.std.proofs.Common.{◌≡◌, ◌+◌, drop, map}
use Rattle.xs_model.specs.Formed.{total}
use Rattle.xs_forms.specs.Seen.{items_seen}
use Rattle.xs_forms.proofs.items.count_fields.Given as goal

abbrev pub invariant-loop-field : goal.invariant-loop-field
invariant-loop-field l = l.count + total (map items_seen (drop l.field-index l.fields)) ≡ total (map items_seen l.fields)
