use Rattle.std.proofs.Common.{ℕ, ◌+◌, ◌*◌, ◌≤◌, ◌^◌, arith}
use Rattle.std.proofs.lemmas.Grind.{common_steps}
use Rattle.lo_paths.proofs.tests.diagram.Goals as goal

small : (l e : ℕ) → l ≤ 8 → e ≤ 8 → l * (3 * e) + 3 * e ≤ 2 ^ 60
small l e a b = grind arith

pub lower_mdd-requires-clause-few : goal.lower_mdd-requires-clause-few
lower_mdd-requires-clause-few c = grind (arith, common_steps, small)
