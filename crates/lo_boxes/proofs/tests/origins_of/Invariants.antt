use Rattle.std.proofs.Common.{◌≡◌, ◌≤◌, length, All}
use Rattle.lo_boxes.proofs.tests.origins_of.Given as goal

abbrev pub invariant-loop-row : goal.invariant-loop-row
invariant-loop-row l = record { few : length l.all ≤ l.row-index; even : All (λ row. length row ≡ l.wide) l.all }
