use Rattle.std.proofs.Common.{◌≡◌, ◌≤◌}
use Rattle.xs_laws.specs.Ascending.{is_new}
use Rattle.xs_laws.specs.Indices.{count_below}
use Rattle.xs_counted.proofs.distinct.new_places.Given as goal

abbrev pub invariant-loop-place : goal.invariant-loop-place
invariant-loop-place l = record { so_far : l.count ≡ count_below (is_new l.except l.sorted) l.place; few : l.count ≤ l.place }
