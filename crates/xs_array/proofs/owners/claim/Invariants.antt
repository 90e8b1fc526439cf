use Rattle.std.proofs.Common.{◌≡◌, ℕ, ◌<◌, drop, length, nat_eq, slice_index}
use Rattle.std.specs.List.{AllByRecursion, list_any}
use Rattle.xs_array.specs.Owners.{claimed}
use Rattle.xs_array.proofs.owners.claim.Given as goal

abbrev pub invariant-loop-place : goal.invariant-loop-place
invariant-loop-place l = record {
  same : length l.owners ≡ length l.initial.owners;
  inside : AllByRecursion (λ p. p < length l.initial.owners) (drop l.place-index l.places);
  each : (p : ℕ) → p < length l.initial.owners → claimed (slice_index l.owners p) (list_any (nat_eq p) (drop l.place-index l.places)) l.number ≡ claimed (slice_index l.initial.owners p) (list_any (nat_eq p) l.places) l.number;
}
