use Rattle.std.proofs.Common.{◌≡◌, drop}
use Rattle.lo_base.specs.Partway.{Partway}
use Rattle.lo_terms.specs.Rules.{stated_equalities, terms_of}
use Rattle.lo_terms.proofs.stated.stated_equalities.Given as goal

abbrev pub invariant-loop-other : goal.invariant-loop-other
invariant-loop-other g l = record {
  due : Partway g.E.Emit.grew l.fn.out l.out (stated_equalities l.before (terms_of (drop l.other-index l.others))) (stated_equalities l.fn.first (terms_of l.others));
  count : g.E.Emit.count l.out ≡ g.E.Emit.count l.fn.out;
}
