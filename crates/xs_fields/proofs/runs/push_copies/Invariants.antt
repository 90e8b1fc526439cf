use Rattle.std.proofs.Common.{◌≡◌, ◌++◌, replicate}
use Rattle.xs_fields.proofs.runs.push_copies.Given as goal

abbrev pub invariant-loop : goal.invariant-loop
invariant-loop l = l.ints ≡ l.initial.ints ++ replicate l.counter l.run.value
