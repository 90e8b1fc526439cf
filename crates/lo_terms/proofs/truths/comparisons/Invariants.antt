use Rattle.std.proofs.Common.{◌≡◌, ◌+◌, ◌++◌, map, drop}
use Rattle.lo_emit.specs.Emitted.{arg_of}
use Rattle.lo_base.specs.Partway.{Partway}
use Rattle.lo_terms.specs.Rules.{comparisons, terms_of}
use Rattle.lo_terms.proofs.truths.comparisons.Given as goal

abbrev pub invariant-loop-member : goal.invariant-loop-member
invariant-loop-member g l =
    let e = g.E.Emit in
    record {
      due : Partway e.grew l.fn.out l.out (comparisons (e.count l.out) l.x (terms_of (drop l.member-index l.members))).items (comparisons (e.count l.fn.out) l.x (terms_of l.members)).items;
      told : l.truths ++ map arg_of (comparisons (e.count l.out) l.x (terms_of (drop l.member-index l.members))).terms ≡ map arg_of (comparisons (e.count l.fn.out) l.x (terms_of l.members)).terms;
      room : e.count l.out ≡ e.count l.fn.out + l.member-index;
    }
