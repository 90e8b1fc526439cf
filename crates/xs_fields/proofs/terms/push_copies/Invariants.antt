use Rattle.std.proofs.Common.{◌≡◌, ◌++◌, map, replicate}
use Rattle.xs_model.specs.declared.term.Term.TheVariants.{Int}
use Rattle.xs_fields.proofs.terms.push_copies.Given as goal

abbrev pub invariant-loop : goal.invariant-loop
invariant-loop l = l.terms ≡ l.initial.terms ++ map Int (replicate l.counter l.run.value)
