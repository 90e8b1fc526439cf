use Rattle.std.proofs.Common.{◌≡◌, drop}
use Rattle.fz_items.specs.Notes.{shown_as}
use Rattle.fz_items.proofs.notes.shown_as.Given as goal

abbrev pub invariant-loop-note : goal.invariant-loop-note
invariant-loop-note l = shown_as (drop l.note-index l.notes) ≡ shown_as l.notes
