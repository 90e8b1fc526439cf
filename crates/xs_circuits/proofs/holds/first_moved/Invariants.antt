use Rattle.std.proofs.Common.{◌≡◌, ℕ, ◌<◌, false}
use Rattle.xs_model.specs.Instance.{values}
use Rattle.xs_paths.specs.Walk.{is_moved}
use Rattle.xs_circuits.proofs.holds.first_moved.Given as goal

abbrev pub invariant-loop-place : goal.invariant-loop-place
invariant-loop-place l = (k : ℕ) → k < l.place → is_moved l.start (values l.a l.list) k ≡ false
