use Rattle.std.proofs.Common.{◌≡◌, ◌+◌, ◌≤◌, ◌++◌, drop, length}
use Rattle.std.specs.List.{All}
use Rattle.lo_base.specs.Partway.{Partway}
use Rattle.lo_tasks.specs.Bounded.{HasBoundedHeight}
use Rattle.lo_tasks.specs.Cumulative.{new_ends, tasks_of}
use Rattle.lo_tasks.proofs.cumulative.new_tasks.Given as goal

abbrev pub invariant-loop-i : goal.invariant-loop-i
invariant-loop-i g l =
    let e = g.E.Emit in
    record {
      due : Partway e.grew l.fn.out l.out (new_ends l.spans (e.count l.out) (drop l.i l.origins) (drop l.i l.lengths)).items (new_ends l.spans (e.count l.fn.out) l.origins l.lengths).items;
      tasks : l.tasks ++ tasks_of (drop l.i l.origins) (new_ends l.spans (e.count l.out) (drop l.i l.origins) (drop l.i l.lengths)).terms (drop l.i l.heights)
          ≡ tasks_of l.origins (new_ends l.spans (e.count l.fn.out) l.origins l.lengths).terms l.heights;
      heights : All (HasBoundedHeight l.spans) l.tasks;
      few : length l.tasks ≤ l.i;
      room : e.count l.out ≤ e.count l.fn.out + l.i;
    }
