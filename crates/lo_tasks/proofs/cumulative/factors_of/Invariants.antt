use Rattle.std.proofs.Common.{◌≡◌, ◌++◌, drop}
use Rattle.lo_tasks.specs.Cumulative.{factors_of}
use Rattle.lo_tasks.proofs.cumulative.factors_of.Given as goal

abbrev pub invariant-loop-task : goal.invariant-loop-task
invariant-loop-task l = l.all ++ factors_of (drop l.task-index l.tasks) ≡ factors_of l.tasks
