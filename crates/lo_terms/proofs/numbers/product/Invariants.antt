use Rattle.std.proofs.Common.{◌≡◌, ◌+◌, drop}
use Rattle.lo_base.specs.Partway.{Partway}
use Rattle.lo_terms.specs.Rules.{product}
use Rattle.lo_terms.proofs.numbers.product.Given as goal

abbrev pub invariant-loop-operand : goal.invariant-loop-operand
invariant-loop-operand g l =
    let e = g.E.Emit in
    record {
      due : Partway e.grew l.fn.out l.out (product (e.count l.out) l.so_far (drop l.operand-index l.operands)).items (product (e.count l.fn.out) l.fn.first l.operands).items;
      told : (product (e.count l.out) l.so_far (drop l.operand-index l.operands)).term ≡ (product (e.count l.fn.out) l.fn.first l.operands).term;
      room : e.count l.out ≡ e.count l.fn.out + l.operand-index;
    }
