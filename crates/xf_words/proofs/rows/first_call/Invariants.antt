use Rattle.std.proofs.Common.{◌≡◌, drop, map, string_bytes}
use Rattle.xf_words.specs.Words.{first_call}
use Rattle.xf_words.proofs.rows.first_call.Given as goal

abbrev pub invariant-loop-row : goal.invariant-loop-row
invariant-loop-row l = first_call l.rows (map string_bytes l.words) ≡ first_call (drop l.row-index l.rows) (map string_bytes l.words)
