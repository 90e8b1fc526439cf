use Rattle.std.proofs.Common.{◌≡◌, ◌≤◌, ◌<◌, ◌-◌, ℕ, true, false, length}
use Rattle.xs_model.specs.Value.{at}
use Rattle.xs_counted.specs.Tests.{precedes}
use Rattle.xs_counted.proofs.sorted.cut.Given as goal

abbrev pub invariant-loop-low : goal.invariant-loop-low
invariant-loop-low l = record {
  order : l.low ≤ l.high;
  within : l.high ≤ length l.sorted;
  before : (j : ℕ) → j < l.low → precedes l.past l.value (at l.sorted j) ≡ true;
  behind : (j : ℕ) → l.high ≤ j → j < length l.sorted → precedes l.past l.value (at l.sorted j) ≡ false;
}

abbrev pub decreases-loop-low : goal.decreases-loop-low
decreases-loop-low l = l.high - l.low
