use Rattle.std.proofs.Common.{◌+◌, ◌*◌, ◌≤◌, drop, length}
use Rattle.lo_base.specs.Partway.{Partway}
use Rattle.lo_tasks.specs.Cumulative.{low_loads}
use Rattle.lo_tasks.proofs.cumulative.lower_loads.Given as goal

abbrev pub invariant-loop-task : goal.invariant-loop-task
invariant-loop-task g l =
    let e = g.E.Emit in
    record {
      due : Partway e.grew l.fn.out l.out (low_loads l.spans l.limit l.tasks (e.count l.out) (drop l.task-index l.tasks)) (low_loads l.spans l.limit l.tasks (e.count l.fn.out) l.tasks);
      room : e.count l.out ≤ e.count l.fn.out + l.task-index * (5 * length l.tasks);
    }
