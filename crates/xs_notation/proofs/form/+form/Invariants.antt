use Rattle.std.proofs.Common.{◌≡◌, map, drop}
use Rattle.xs_notation.specs.Forms.{are_formed, form}
use Rattle.xs_notation.proofs.form.+form.Given as goal

abbrev pub invariant-are_formed-loop-item : goal.invariant-are_formed-loop-item
invariant-are_formed-loop-item l = are_formed (map form (drop l.item-index l.items)) ≡ are_formed (map form l.items)
