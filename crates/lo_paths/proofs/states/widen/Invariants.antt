use Rattle.std.proofs.Common.{◌≡◌, ℕ, length, None, get_or}
use Rattle.lo_paths.proofs.states.widen.Given as goal

abbrev pub invariant-loop-number : goal.invariant-loop-number
invariant-loop-number l = record {
  same : (q : ℕ) → get_or l.places q None ≡ get_or l.fn.places q None;
  long : length l.places ≡ l._number;
}
