use Rattle.std.proofs.Common.{◌≡◌, ◌≤◌}
use Rattle.xs_laws.specs.Indices.{count_below}
use Rattle.xs_model.specs.Instance.{values}
use Rattle.xs_paths.specs.Walk.{is_moved}
use Rattle.xs_circuits.proofs.holds.moved_places.Given as goal

abbrev pub invariant-loop-place : goal.invariant-loop-place
invariant-loop-place l = record {
  count : l.count ≡ count_below (is_moved l.start (values l.a l.list)) l.place;
  within : l.count ≤ l.place;
}
