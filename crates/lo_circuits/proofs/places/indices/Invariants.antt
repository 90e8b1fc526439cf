use Rattle.std.proofs.Common.{◌≡◌, pos, ◌+ℤ◌, map, length}
use Rattle.std.specs.List.{range_with_len}
use Rattle.lo_emit.specs.declared.term.Term.TheVariants.{Int}
use Rattle.lo_circuits.proofs.places.indices.Given as goal

abbrev pub invariant-loop-place : goal.invariant-loop-place
invariant-loop-place l = record {
  all : l.all ≡ map (λ p. Int (l.nodes.start +ℤ pos p)) (range_with_len 0 l.place);
  even : length l.all ≡ l.place;
}
