use Rattle.std.proofs.Common.{◌≡◌, drop}
use Rattle.fz_items.specs.Notes.{is_shown}
use Rattle.fz_items.proofs.notes.is_shown.Given as goal

abbrev pub invariant-loop-note : goal.invariant-loop-note
invariant-loop-note l = is_shown (drop l.note-index l.notes) ≡ is_shown l.notes
