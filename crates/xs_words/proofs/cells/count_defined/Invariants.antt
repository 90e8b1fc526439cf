use Rattle.std.proofs.Common.{◌≡◌, ◌≤◌, ◌+◌, drop, length}
use Rattle.std.specs.List.{filter}
use Rattle.xs_words.specs.Compact.{is_defined}
use Rattle.xs_words.proofs.cells.count_defined.Given as goal

abbrev pub invariant-loop-place : goal.invariant-loop-place
invariant-loop-place l = record {
  within : l.count ≤ l.place-index;
  so_far : l.count + length (filter (is_defined l.names l.at) (drop l.place-index l.places)) ≡ length (filter (is_defined l.names l.at) l.places);
}
