use Rattle.std.proofs.Common.{◌≡◌, ◌+◌, ◌≤◌, ◌++◌, drop, length, map}
use Rattle.std.specs.List.{All}
use Rattle.lo_base.specs.Partway.{Partway}
use Rattle.lo_emit.specs.declared.term.Term.TheVariants.{Var}
use Rattle.lo_tasks.specs.Bounded.{HasBoundedHeight}
use Rattle.lo_tasks.specs.Cumulative.{given_ends, tasks_of}
use Rattle.lo_tasks.proofs.cumulative.given_tasks.Given as goal

abbrev pub invariant-loop-i : goal.invariant-loop-i
invariant-loop-i g l =
    let e = g.E.Emit in
    record {
      due : Partway e.grew l.fn.out l.out (given_ends (e.count l.out) (drop l.i l.origins) (drop l.i l.lengths) (drop l.i l.ends)) (given_ends (e.count l.fn.out) l.origins l.lengths l.ends);
      tasks : l.tasks ++ tasks_of (drop l.i l.origins) (map Var (drop l.i l.ends)) (drop l.i l.heights) ≡ tasks_of l.origins (map Var l.ends) l.heights;
      heights : All (HasBoundedHeight l.spans) l.tasks;
      few : length l.tasks ≤ l.i;
      room : e.count l.out ≤ e.count l.fn.out + l.i;
    }
