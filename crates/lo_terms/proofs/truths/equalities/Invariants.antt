use Rattle.std.proofs.Common.{◌≡◌, ◌+◌, ◌++◌, map, drop}
use Rattle.lo_emit.specs.Emitted.{arg_of}
use Rattle.lo_base.specs.Partway.{Partway}
use Rattle.lo_terms.specs.Rules.{equalities, terms_of}
use Rattle.lo_terms.proofs.truths.equalities.Given as goal

abbrev pub invariant-loop-other : goal.invariant-loop-other
invariant-loop-other g l =
    let e = g.E.Emit in
    record {
      due : Partway e.grew l.fn.out l.out (equalities (e.count l.out) l.before (terms_of (drop l.other-index l.others))).items (equalities (e.count l.fn.out) l.fn.first (terms_of l.others)).items;
      told : l.truths ++ map arg_of (equalities (e.count l.out) l.before (terms_of (drop l.other-index l.others))).terms ≡ map arg_of (equalities (e.count l.fn.out) l.fn.first (terms_of l.others)).terms;
      room : e.count l.out ≡ e.count l.fn.out + l.other-index;
    }
