use Rattle.std.proofs.Common.{drop}
use Rattle.lo_base.specs.Partway.{Partway}
use Rattle.lo_emit.specs.Loops.{for_pairs}
use Rattle.lo_forms.specs.Different.{differ}
use Rattle.lo_forms.proofs.different.differ_all.Given as goal

abbrev pub invariant-loop-i : goal.invariant-loop-i
invariant-loop-i g l =
    let e = g.E.Emit in
    record { due : Partway e.grew l.fn.out l.out (for_pairs differ (e.count l.out) (drop l.i l.terms)) (for_pairs differ (e.count l.fn.out) l.terms) }
