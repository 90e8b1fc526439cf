use Rattle.std.proofs.Common.{◌≡◌, ◌++◌, ◌≤ℤ◌}
use Rattle.std.specs.Int.{int_gap}
use Rattle.fz_file.proofs.IntegerLemmas.{due}
use Rattle.fz_file.proofs.number.push_past_first.Given as goal

abbrev pub invariant-loop-value : goal.invariant-loop-value
invariant-loop-value l = record {
  within : l.value ≤ℤ l.span.hi;
  written : l.out.items ++ due l.value l.span.hi ≡ l.initial.out.items ++ due l.span.lo l.span.hi;
}

abbrev pub decreases-loop-value : goal.decreases-loop-value
decreases-loop-value l = int_gap l.value l.span.hi
