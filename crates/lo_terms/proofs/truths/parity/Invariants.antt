use Rattle.std.proofs.Common.{◌≡◌, ◌+◌, drop}
use Rattle.lo_base.specs.Partway.{Partway}
use Rattle.lo_terms.specs.Rules.{parity, terms_of}
use Rattle.lo_terms.proofs.truths.parity.Given as goal

abbrev pub invariant-loop-other : goal.invariant-loop-other
invariant-loop-other g l =
    let e = g.E.Emit in
    record {
      due : Partway e.grew l.fn.out l.out (parity (e.count l.out) l.so_far (terms_of (drop l.other-index l.others))).items (parity (e.count l.fn.out) l.fn.first (terms_of l.others)).items;
      told : (parity (e.count l.out) l.so_far (terms_of (drop l.other-index l.others))).term ≡ (parity (e.count l.fn.out) l.fn.first (terms_of l.others)).term;
      room : e.count l.out ≡ e.count l.fn.out + l.other-index;
    }
