-- Tests of indices.
use Rattle.std.proofs.Common.{pos, ◌+ℤ◌}
use Rattle.std.specs.Prelude.{int_le, int_lt}
use Rattle.std.proofs.lemmas.Bool.{and_parts, and_from}
use Rattle.xs_laws.specs.Indices.{IndexLaw}
use Rattle.xs_laws.proofs.Cumulative.{le_says, le_met, lt_says, lt_met}

pub index_is_tested : IndexLaw
index_is_tested start n i = (
  λ h. and_from (int_le start i) (int_lt i (start +ℤ pos n)) (le_met start i h.0) (lt_met i (start +ℤ pos n) h.1),
  λ h. let r = and_parts (int_le start i) (int_lt i (start +ℤ pos n)) h in (le_says start i r.0, lt_says i (start +ℤ pos n) r.1),
)
