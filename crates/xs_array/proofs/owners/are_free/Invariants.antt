use Rattle.std.proofs.Common.{◌≡◌, ◌<◌, drop, length}
use Rattle.std.specs.List.{AllByRecursion}
use Rattle.xs_array.specs.Owners.{are_free}
use Rattle.xs_array.proofs.owners.are_free.Given as goal

abbrev pub invariant-loop-place : goal.invariant-loop-place
invariant-loop-place l = record {
  inside : AllByRecursion (λ p. p < length l.owners) (drop l.place-index l.places);
  rest : are_free l.owners (drop l.place-index l.places) ≡ are_free l.owners l.places;
}
