use Rattle.std.specs.List.{All}
use Rattle.lo_tasks.specs.Bounded.{IsBounded}
use Rattle.xs_model.specs.declared.term.Term.TheVariants.{Var}
use Rattle.lo_tasks.proofs.tests.starts_of.Given as goal

abbrev pub invariant-loop-start : goal.invariant-loop-start
invariant-loop-start l = All (λ start. IsBounded l.spans (Var start)) l.all
