use Rattle.std.proofs.Common.{ℕ, ◌+◌, ◌*◌, ◌≤◌, ◌^◌, arith}
use Rattle.std.proofs.lemmas.Grind.{common_steps}
use Rattle.lo_paths.proofs.tests.automaton.Goals as goal

small : (l e : ℕ) → l ≤ 8 → e ≤ 8 → l * (3 * e) + 3 * e ≤ 2 ^ 60
small l e a b = grind arith

pub lower_regular-requires-clause-few : goal.lower_regular-requires-clause-few
lower_regular-requires-clause-few c = grind (arith, common_steps, small)
