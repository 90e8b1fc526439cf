use Rattle.std.proofs.Common.{◌≡◌, ℕ, ◌<◌, ◌≤◌, true, length, slice_index}
use Rattle.xs_array.specs.Owners.{claimed}
use Rattle.xs_array.proofs.owners.claim_others.Given as goal

abbrev pub invariant-loop-owner : goal.invariant-loop-owner
invariant-loop-owner l = record {
  same : length l.owners ≡ length l.initial.owners;
  done : (p : ℕ) → p < l.owner-index → slice_index l.owners p ≡ claimed (slice_index l.initial.owners p) true l.number;
  left : (p : ℕ) → l.owner-index ≤ p → slice_index l.owners p ≡ slice_index l.initial.owners p;
}
