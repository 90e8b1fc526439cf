use Rattle.std.proofs.Common.{◌≡◌, drop}
use Rattle.fz_items.specs.Notes.{notes_small}
use Rattle.fz_items.proofs.notes.notes_small.Given as goal

abbrev pub invariant-loop-note : goal.invariant-loop-note
invariant-loop-note l = notes_small (drop l.note-index l.notes) ≡ notes_small l.notes
