use Rattle.std.proofs.Common.{◌≡◌, ◌-◌, ◌<◌, pos, ◌+ℤ◌, length}
use Rattle.xs_model.specs.Instance.{values}
use Rattle.xs_paths.specs.Round.{goes_round, returns_after}
use Rattle.xs_circuits.proofs.holds.goes_round.Given as goal

abbrev pub invariant-loop : goal.invariant-loop
invariant-loop l = record {
  inside : l.place < length l.list;
  so_far : returns_after l.start (values l.a l.list) (l.start +ℤ pos l.home) (l.start +ℤ pos l.place) (l.nodes - l.counter) ≡ goes_round l.start (values l.a l.list) l.home l.nodes;
}
