use Rattle.std.specs.List.{All}
use Rattle.lo_tasks.specs.Bounded.{IsBounded}
use Rattle.lo_tasks.proofs.tests.terms_of.Given as goal

abbrev pub invariant-loop-term : goal.invariant-loop-term
invariant-loop-term l = All (IsBounded l.spans) l.all
