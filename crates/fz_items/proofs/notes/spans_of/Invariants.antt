use Rattle.std.proofs.Common.{◌≡◌, ◌++◌, drop}
use Rattle.std.specs.Option.{option_map}
use Rattle.fz_items.specs.Notes.{spans_of}
use Rattle.fz_items.proofs.notes.spans_of.Given as goal

abbrev pub invariant-loop-item : goal.invariant-loop-item
invariant-loop-item l = option_map (λ ss. l.spans ++ ss) (spans_of (drop l.item-index l.items)) ≡ spans_of l.items
