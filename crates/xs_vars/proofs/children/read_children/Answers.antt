use Rattle.std.proofs.Common.{◌∙◌, ◌+◌, ap, drop, length, sym, subst, map, arith}
use Rattle.std.proofs.lemmas.List.{length-set}
use Rattle.std.proofs.lemmas.Result.{err_from_is_err_and}
use Rattle.xs_var.specs.Elements.{children_of}
use Rattle.xs_var.specs.Units.{outcome}
use Rattle.xs_vars.specs.Declarations.{child_unit, declared_of, nothing}
use Rattle.xs_vars.specs.Kept.{IsKept}
use Rattle.xs_vars.specs.declared.declarations.Declarations.{Declarations}
use Rattle.xs_vars.proofs.ChildLemmas.{left_at, past_element, past_text, stopped, taken}
use Rattle.xs_vars.proofs.children.read_children.Goals as goal
use Rattle.xs_vars.proofs.children.read_children.Goals.{in-Inner+in_ok-known-in-Inner, in-Words}

pub returns-in_err-known-in-Inner-clause-outcome : goal.returns-in_err-known-in-Inner-clause-outcome
returns-in_err-known-in-Inner-clause-outcome c =
    let s = declared_of c.loop-i.known in
    let pieces = c.loop-i.pieces in
    let total = outcome nothing (map child_unit (children_of c.args.pieces)) in
    let p = err_from_is_err_and c.from_residual.result c.from_residual.ensures.1 in
    let left = left_at s pieces c.loop-i.i c.replace-piece.result total (omega (arith, c.loop-i-test.true, c.len-i-end.ensures, c.loop-i.invariant.size)) c.replace-piece.ensures.value c.loop-i.invariant.same in
    rw (p.1, p.2) (stopped declared_of s pieces c.loop-i.i c.replace-piece.result total c.in-Inner.node _ left c.in-Inner.is c.in_err-known-in-Inner.ensures.outcome)

pub loop-i-preserved : goal.loop-i-preserved
loop-i-preserved c =
    let s = declared_of c.loop-i.known in
    let pieces = c.loop-i.pieces in
    let more = c.replace-piece.new.self in
    let at = c.loop-i.i in
    let total = outcome nothing (map child_unit (children_of c.args.pieces)) in
    let left = left_at s pieces at c.replace-piece.result total (omega (arith, c.loop-i-test.true, c.len-i-end.ensures, c.loop-i.invariant.size)) c.replace-piece.ensures.value c.loop-i.invariant.same in
    let size = ap length c.replace-piece.ensures.after ∙ length-set pieces at _ ∙ c.loop-i.invariant.size in
    elim c.match-piece.branch [
      | in-Inner+in_ok-known-in-Inner w ↦ record {
        size = size;
        same = ap (λ (k : Declarations). outcome (declared_of k) (map child_unit (children_of (drop (at + 1) more)))) w.known-is ∙ taken _ pieces more at _ c.replace-piece.ensures.after ∙ past_element s _ pieces at c.replace-piece.result total w.in-Inner.node left w.in-Inner.is w.in_ok-known-in-Inner.ensures.outcome;
        kept = subst IsKept (sym w.known-is) w.in_ok-known-in-Inner.ensures.kept;
      }
      | in-Words w ↦ record {
        size = size;
        same = ap (λ (k : Declarations). outcome (declared_of k) (map child_unit (children_of (drop (at + 1) more)))) w.known-is ∙ taken s pieces more at _ c.replace-piece.ensures.after ∙ past_text s pieces at c.replace-piece.result total w.in-Words.field-0 left w.in-Words.is;
        kept = subst IsKept (sym w.known-is) c.loop-i.invariant.kept;
      }
    ]
