use Rattle.std.proofs.Common.{List, All, subst, sym, ◌∙◌}
use Rattle.xs_model.specs.declared.expr.Expr.{Expr}
use Rattle.xs_model.specs.declared.expr.Expr.TheOpen.{Expr-F}
use Rattle.xs_model.specs.declared.expr.Expr.TheVariants.{rolls-Int, rolls-Var}
use Rattle.xs_model.specs.Shape.{HasShape, IsShaped}
use Rattle.xs_expr.proofs.Every.{every-operands, every-node, made-more}
use Rattle.xs_expr.proofs.Shapes.{shape-is, is-shape, shaped-Int, shaped-Var, shaped-node, shaped-fewer}
use Rattle.xs_expr.proofs.shape.+shape.Goals as goal

pub are_shaped-loop-item-preserved : goal.are_shaped-loop-item-preserved
are_shaped-loop-item-preserved t c =
    let es = c.args.items.now in
    let i = c.loop-item.item-index in
    let item = c.item-item.result in record {
      whole = λ all. c.loop-item.invariant.whole (made-more HasShape i es item c.loop-item-test.true c.item-item.is (c.is_shaped.ensures.shaped c.if-not-is_shaped.false) all);
      left = λ all. shaped-fewer i es item c.loop-item-test.true c.item-item.is (c.loop-item.invariant.left all);
    }

pub is_shaped-returns-in-Int-clause-shaped : goal.is_shaped-returns-in-Int-clause-shaped
is_shaped-returns-in-Int-clause-shaped t c = λ _. subst IsShaped (rolls-Int c.in-Int.field-0 ∙ sym c.in-Int.is) (shaped-Int c.in-Int.field-0)

pub is_shaped-returns-in-Var-clause-shaped : goal.is_shaped-returns-in-Var-clause-shaped
is_shaped-returns-in-Var-clause-shaped t c = λ _. subst IsShaped (rolls-Var c.in-Var.field-0 ∙ sym c.in-Var.is) (shaped-Var c.in-Var.field-0)

pub is_shaped-returns-then-has_shape-clause-shaped : goal.is_shaped-returns-then-has_shape-clause-shaped
is_shaped-returns-then-has_shape-clause-shaped t c =
    let op = c.in-Node.op in
    let shape = shape-is op c.as_slice.result.now (sym c.has_shape.ensures ∙ c.if-has_shape.true) in λ ok.
    shaped-node c.args.e.now op c.in-Node.operands c.in-Node.is
    (subst (λ (es : List Expr). HasShape (Expr-F.Node op es)) c.as_slice.ensures shape)
    (subst (All IsShaped) c.as_slice-then-has_shape.ensures (c.are_shaped.ensures.shaped ok))

pub is_shaped-returns-then-has_shape-clause-every : goal.is_shaped-returns-then-has_shape-clause-every
is_shaped-returns-then-has_shape-clause-every t c = λ d.
    c.are_shaped.ensures.every (every-operands HasShape c.args.e.now c.in-Node.op c.in-Node.operands c.as_slice-then-has_shape.result.now c.in-Node.is c.as_slice-then-has_shape.ensures d)

pub is_shaped-returns-else-has_shape-clause-every : goal.is_shaped-returns-else-has_shape-clause-every
is_shaped-returns-else-has_shape-clause-every t c = λ d.
    let node = every-node HasShape c.args.e.now c.in-Node.op c.in-Node.operands c.in-Node.is d in
    c.has_shape.ensures ∙ is-shape c.in-Node.op c.as_slice.result.now (subst (λ (es : List Expr). HasShape (Expr-F.Node c.in-Node.op es)) (sym c.as_slice.ensures) node)
