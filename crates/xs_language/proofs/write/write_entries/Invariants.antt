use Rattle.std.proofs.Common.{◌≡◌, ◌++◌, [], drop, map}
use Rattle.xs_expr.specs.Text.{joined_from}
use Rattle.xs_language.specs.Written.{entry_text}
use Rattle.xs_language.proofs.write.write_entries.Given as goal

abbrev pub invariant-loop-entry : goal.invariant-loop-entry
invariant-loop-entry l = l.out.items ++ joined_from l.before (map entry_text (drop l.entry-index l.tuple)) ≡ l.initial.out.items ++ joined_from [] (map entry_text l.tuple)
