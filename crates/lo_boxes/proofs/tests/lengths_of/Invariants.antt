use Rattle.std.proofs.Common.{◌≡◌, length, All}
use Rattle.lo_boxes.proofs.tests.lengths_of.Given as goal

abbrev pub invariant-loop-row : goal.invariant-loop-row
invariant-loop-row l = All (λ row. length row ≡ l.wide) l.all
