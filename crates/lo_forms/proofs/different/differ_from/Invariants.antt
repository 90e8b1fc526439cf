use Rattle.std.proofs.Common.{drop}
use Rattle.lo_base.specs.Partway.{Partway}
use Rattle.lo_emit.specs.Loops.{for_all}
use Rattle.lo_forms.specs.Different.{differ}
use Rattle.lo_forms.proofs.different.differ_from.Given as goal

abbrev pub invariant-loop-other : goal.invariant-loop-other
invariant-loop-other g l =
    let e = g.E.Emit in
    Partway e.grew l.fn.out l.out (for_all (λ n y. differ n l.first y) (e.count l.out) (drop l.other-index l.others)) (for_all (λ n y. differ n l.first y) (e.count l.fn.out) l.others)
