use Rattle.std.proofs.Common.{◌≡◌, ◌++◌, map, drop}
use Rattle.xs_model.specs.declared.term.Occurrence.TheVariants.{Term}
use Rattle.xs_conditions.proofs.occurrences.push_terms.Given as goal

abbrev pub invariant-loop-term : goal.invariant-loop-term
invariant-loop-term l = l.occurrences ++ map Term (drop l.term-index l.terms) ≡ l.initial.occurrences ++ map Term l.terms
