use Rattle.std.proofs.Common.{◌≡◌, pos, replicate}
use Rattle.xs_model.specs.declared.term.Term.TheVariants.{Int}
use Rattle.xs_objectives.proofs.lists.ones.Given as goal

abbrev pub invariant-loop : goal.invariant-loop
invariant-loop l = l.terms ≡ replicate l.counter (Int (pos 1))
