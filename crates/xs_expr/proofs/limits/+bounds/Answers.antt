use Rattle.std.proofs.Common.{List, rules, pos, map, subst, ap, sym, ◌∙◌}
use Rattle.std.proofs.lemmas.List.{get_or_read}
use Rattle.xs_model.specs.declared.expr.Expr.{Expr, the_lemmas}
use Rattle.xs_model.specs.Bounds.{HasSpan, exactly, bounds, all_ok, and_then, node_bounds}
use Rattle.xs_model.specs.Shape.{HasShape, ArePlaced}
use Rattle.xs_expr.proofs.Every.{every-operands, every-node, every-var}
use Rattle.xs_expr.proofs.Gathered.{gathered_of-node}
use Rattle.xs_expr.proofs.Layers.{bounds-Node}
use Rattle.xs_expr.proofs.Exponents.{power-exponent}
use Rattle.xs_expr.proofs.limits.+bounds.Goals as goal

pub bounds-bounds-spans-variable : goal.bounds-bounds-spans-variable
bounds-bounds-spans-variable t c = every-var (HasSpan c.args.spans.now) _ _ c.in-Var.is c.requires.variables

pub bounds-operand_bounds-requires : goal.bounds-operand_bounds-requires
bounds-operand_bounds-requires t c = (
  search (rules, the_lemmas),
  (
    every-operands HasShape _ _ _ _ c.in-Node.is c.as_slice.ensures c.requires.shaped,
    every-operands (HasSpan c.args.spans.now) _ _ _ _ c.in-Node.is c.as_slice.ensures c.requires.variables,
  ),
)

pub bounds-node-requires : goal.bounds-node-requires
bounds-node-requires t c = λ is_power.
    let shape = every-node HasShape _ _ _ c.in-Node.is c.requires.shaped in
    let placed = subst (ArePlaced c.in-Node.op) (sym c.as_slice.ensures) shape.1 in
    power-exponent c.args.spans.now c.in-Node.op c.as_slice.result.now c.in_ok-operands-in-Node.operands
    (subst (λ op. ArePlaced op c.as_slice.result.now) is_power placed)
    (sym c.operand_bounds.ensures ∙ c.in_ok-operands-in-Node.was)

pub bounds-returns-in-Var : goal.bounds-returns-in-Var
bounds-returns-in-Var t c =
    let within = every-var (HasSpan c.args.spans.now) _ _ c.in-Var.is c.requires.variables in
    let read = get_or_read c.args.spans.now _ _ within c.index-spans-variable.is (exactly (pos 0)) in
    search (rules, the_lemmas)

pub bounds-returns-in_ok-operands-in-Node : goal.bounds-returns-in_ok-operands-in-Node
bounds-returns-in_ok-operands-in-Node t c =
    let known = sym c.operand_bounds.ensures ∙ c.in_ok-operands-in-Node.was in
    c.node.ensures
    ∙ gathered_of-node c.in-Node.op (all_ok (map (bounds c.args.spans.now) c.as_slice.result.now)) c.in_ok-operands-in-Node.operands known
    ∙ ap (λ (es : List Expr). and_then (all_ok (map (bounds c.args.spans.now) es)) (node_bounds c.in-Node.op)) c.as_slice.ensures
    ∙ sym (bounds-Node c.args.spans.now c.in-Node.op c.in-Node.items)
    ∙ ap (bounds c.args.spans.now) (sym c.in-Node.is)
