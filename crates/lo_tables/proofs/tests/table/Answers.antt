use Rattle.std.proofs.Common.{ℕ, ◌+◌, ◌*◌, ◌≤◌, ◌^◌, arith}
use Rattle.std.proofs.lemmas.Grind.{common_steps}
use Rattle.lo_tables.proofs.tests.table.Goals as goal

small : (k l : ℕ) → k ≤ 8 → l ≤ 8 → k * (l + 1) ≤ 2 ^ 60
small k l a b = grind arith

pub lower_extension-requires-clause-few : goal.lower_extension-requires-clause-few
lower_extension-requires-clause-few c = grind (arith, common_steps, small)
