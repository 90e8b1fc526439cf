use Rattle.std.proofs.Common.{◌≡◌, ◌≤◌, length}
use Rattle.std.specs.List.{All}
use Rattle.lo_tables.proofs.tests.tuples_of.Given as goal

abbrev pub invariant-loop-entry : goal.invariant-loop-entry
invariant-loop-entry l = record { few : length l.rows ≤ l.entry-index; long : All (λ row. length row ≡ l.width) l.rows }
