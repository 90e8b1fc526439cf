use Rattle.std.proofs.Common.{◌∙◌, ◌+◌, ap, drop, sym, subst, map}
use Rattle.std.proofs.lemmas.Result.{err_from_is_err_and}
use Rattle.xs_var.specs.Elements.{children_of}
use Rattle.xs_var.specs.Units.{outcome}
use Rattle.xs_vars.specs.Declarations.{child_unit, declared_of, nothing}
use Rattle.xs_vars.specs.Kept.{IsKept}
use Rattle.xs_vars.specs.declared.declarations.Declarations.{Declarations}
use Rattle.xs_vars.proofs.ChildLemmas.{IsLeft, past_element, past_text, stopped}
use Rattle.xs_vars.proofs.children.read_each.Goals as goal
use Rattle.xs_vars.proofs.children.read_each.Goals.{in-Inner+in_ok-known-in-Inner, in-Words}

pub returns-in_err-known-in-Inner-clause-outcome : goal.returns-in_err-known-in-Inner-clause-outcome
returns-in_err-known-in-Inner-clause-outcome c =
    let s = declared_of c.loop-piece.known in
    let pieces = c.args.pieces.now in
    let total = outcome nothing (map child_unit (children_of pieces)) in
    let p = err_from_is_err_and c.from_residual.result c.from_residual.ensures.1 in
    let left : IsLeft s pieces c.loop-piece.piece-index c.piece-item.result total = record { within = c.loop-piece-test.true; here = c.piece-item.is; same = c.loop-piece.invariant.same } in
    rw (p.1, p.2) (stopped declared_of s pieces c.loop-piece.piece-index c.piece-item.result total c.in-Inner.node _ left c.in-Inner.is c.in_err-known-in-Inner.ensures.outcome)

pub loop-piece-preserved : goal.loop-piece-preserved
loop-piece-preserved c =
    let s = declared_of c.loop-piece.known in
    let pieces = c.args.pieces.now in
    let at = c.loop-piece.piece-index in
    let total = outcome nothing (map child_unit (children_of pieces)) in
    let left : IsLeft s pieces at c.piece-item.result total = record { within = c.loop-piece-test.true; here = c.piece-item.is; same = c.loop-piece.invariant.same } in
    elim c.match-piece.branch [
      | in-Inner+in_ok-known-in-Inner w ↦ record {
        same = ap (λ (k : Declarations). outcome (declared_of k) (map child_unit (children_of (drop (at + 1) pieces)))) w.known-is ∙ past_element s _ pieces at c.piece-item.result total w.in-Inner.node left w.in-Inner.is w.in_ok-known-in-Inner.ensures.outcome;
        kept = subst IsKept (sym w.known-is) w.in_ok-known-in-Inner.ensures.kept;
      }
      | in-Words w ↦ record {
        same = ap (λ (k : Declarations). outcome (declared_of k) (map child_unit (children_of (drop (at + 1) pieces)))) w.known-is ∙ past_text s pieces at c.piece-item.result total w.in-Words.field-0 left w.in-Words.is;
        kept = subst IsKept (sym w.known-is) c.loop-piece.invariant.kept;
      }
    ]
