use Rattle.std.proofs.Common.{◌∙◌, ap, length, sym, arith}
use Rattle.std.proofs.lemmas.List.{length-set}
use Rattle.xs_file.proofs.ChildLemmas.{IsAhead, element_out, none_ahead, text_out}
use Rattle.xs_file.proofs.sections.take_child.Goals as goal

pub returns-in-Inner : goal.returns-in-Inner
returns-in-Inner c =
    let pieces = c.loop-i.pieces in
    let h : IsAhead pieces c.loop-i.i c.replace-piece.result = record { within = omega (arith, c.loop-i-test.true, c.len-i-end.ensures, c.loop-i.invariant.size); here = c.replace-piece.ensures.value; none = c.loop-i.invariant.none } in
    sym c.loop-i.invariant.same ∙ element_out pieces c.replace-piece.new.self c.loop-i.i c.replace-piece.result c.in-Inner.node _ h c.in-Inner.is c.replace-piece.ensures.after

pub loop-i-preserved : goal.loop-i-preserved
loop-i-preserved c =
    let pieces = c.loop-i.pieces in
    let more = c.replace-piece.new.self in
    let at = c.loop-i.i in
    let h : IsAhead pieces at c.replace-piece.result = record { within = omega (arith, c.loop-i-test.true, c.len-i-end.ensures, c.loop-i.invariant.size); here = c.replace-piece.ensures.value; none = c.loop-i.invariant.none } in
    record {
      size = ap length c.replace-piece.ensures.after ∙ length-set pieces at _ ∙ c.loop-i.invariant.size;
      none = none_ahead pieces more at c.replace-piece.result _ h c.replace-piece.ensures.after;
      same = text_out pieces more at c.replace-piece.result c.in-Words.field-0 _ h c.in-Words.is c.replace-piece.ensures.after ∙ c.loop-i.invariant.same;
    }
