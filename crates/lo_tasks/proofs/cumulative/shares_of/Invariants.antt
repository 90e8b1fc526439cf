use Rattle.std.proofs.Common.{◌≡◌, ◌+◌, ◌*◌, ◌≤◌, ◌++◌, drop}
use Rattle.lo_base.specs.Partway.{Partway}
use Rattle.lo_tasks.specs.Cumulative.{shares_of}
use Rattle.lo_tasks.proofs.cumulative.shares_of.Given as goal

abbrev pub invariant-loop-task : goal.invariant-loop-task
invariant-loop-task g l =
    let e = g.E.Emit in
    record {
      due : Partway e.grew l.fn.out l.out (shares_of l.spans (drop l.task-index l.tasks) l.time (e.count l.out)).items (shares_of l.spans l.tasks l.time (e.count l.fn.out)).items;
      terms : l.all ++ (shares_of l.spans (drop l.task-index l.tasks) l.time (e.count l.out)).terms ≡ (shares_of l.spans l.tasks l.time (e.count l.fn.out)).terms;
      room : e.count l.out ≤ e.count l.fn.out + 5 * l.task-index;
    }
