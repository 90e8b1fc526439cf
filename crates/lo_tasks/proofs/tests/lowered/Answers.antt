use Rattle.std.proofs.Common.{ℕ, ◌+◌, ◌*◌, ◌≤◌, ◌^◌, arith}
use Rattle.std.proofs.lemmas.Grind.{common_steps}
use Rattle.lo_tasks.proofs.tests.lowered.Goals as goal

small : (k : ℕ) → k ≤ 8 → k * (5 * k) + k ≤ 2 ^ 60
small k h = grind arith

pub lower_cumulative-requires-clause-few : goal.lower_cumulative-requires-clause-few
lower_cumulative-requires-clause-few c = grind (arith, common_steps, small)
