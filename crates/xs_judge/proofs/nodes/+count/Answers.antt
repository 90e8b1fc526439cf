use Rattle.std.proofs.Common.{◌≡◌, ◌+◌, List, [], rules, arith, pos, map, take, drop, subst, ap, sym, ◌∙◌, Result, to_z, of_z}
use Rattle.std.specs.Int.{w128}
use Rattle.std.proofs.lemmas.List.{get_or_read}
use Rattle.xf_num.specs.Span.{Bounds}
use Rattle.xf_text.specs.declared.fault.Kind.{Kind}
use Rattle.xs_model.specs.declared.expr.Expr.{Expr, the_lemmas}
use Rattle.xs_expr.specs.declared.limits.Operands.{Operands}
use Rattle.xs_model.specs.Bounds.{HasSpan, exactly, limited, operand, all_ok, and_then, node_bounds}
use Rattle.xs_model.specs.Magnitude.{weight, weighed, bounds_below, nodes_below}
use Rattle.xs_expr.specs.Operands.{gathered_of, none}
use Rattle.xs_model.specs.Shape.{HasShape, ArePlaced}
use Rattle.xs_judge.specs.Weights.{totalled, counted_of}
use Rattle.xs_expr.proofs.Every.{every-operands, every-node, every-var}
use Rattle.xs_expr.proofs.Exponents.{power-exponent}
use Rattle.xs_expr.proofs.Gathered.{gathered_of-node}
use Rattle.xs_expr.proofs.Weighed.{weighed-Int, weighed-Var, weighed-Node, bounds-below}
use Rattle.xs_judge.proofs.Counted.{counted-is, nodes-next, operands-next}
use Rattle.xs_judge.proofs.nodes.+count.Goals as goal

pub count_nodes-bounds-spans-variable : goal.count_nodes-bounds-spans-variable
count_nodes-bounds-spans-variable t c = every-var (HasSpan c.args.spans.now) _ _ c.in-Var.is c.requires.variables

pub count_nodes-count_operands-requires : goal.count_nodes-count_operands-requires
count_nodes-count_operands-requires t c = (
  search (rules, the_lemmas),
  (
    every-operands HasShape _ _ _ _ c.in-Node.is c.as_slice.ensures c.requires.shaped,
    every-operands (HasSpan c.args.spans.now) _ _ _ _ c.in-Node.is c.as_slice.ensures c.requires.variables,
  ),
)

pub count_nodes-node-requires : goal.count_nodes-node-requires
count_nodes-node-requires t c = λ is_power.
    let shape = every-node HasShape _ _ _ c.in-Node.is c.requires.shaped in
    let placed = subst (ArePlaced c.in-Node.op) (sym c.as_slice.ensures) shape.1 in
    let known = ap (λ (rs : List (Result Bounds Kind)). gathered_of c.in-Node.op 0 none (all_ok rs)) (sym (bounds-below c.args.spans.now c.as_slice.result.now)) ∙ c.in_ok-operands-in-Node.ensures.operands in
    power-exponent c.args.spans.now c.in-Node.op c.as_slice.result.now c.in_ok-operands-in-Node.operands
    (subst (λ op. ArePlaced op c.as_slice.result.now) is_power placed) known

pub count_nodes-returns-in-Int : goal.count_nodes-returns-in-Int
count_nodes-returns-in-Int t c =
    let same : to_z w128 (of_z w128 c.in-Int.value) ≡ c.in-Int.value = search rules in
    c.with_node.ensures [] c.none.ensures
    ∙ ap (λ (r : Result Bounds Kind). counted_of (weight r [])) (c.limited.ensures ∙ ap limited (c.only.ensures ∙ ap exactly same))
    ∙ ap counted_of (sym (weighed-Int c.args.spans.now c.in-Int.value) ∙ ap (weighed c.args.spans.now) (sym c.in-Int.is))

pub count_nodes-returns-in-Var : goal.count_nodes-returns-in-Var
count_nodes-returns-in-Var t c =
    let within = every-var (HasSpan c.args.spans.now) _ _ c.in-Var.is c.requires.variables in
    let read = get_or_read c.args.spans.now _ _ within c.index-spans-variable.is (exactly (pos 0)) in
    let leaf : c.index-spans-variable.result ≡ operand c.args.spans.now c.in-Var.variable = search rules in
    c.with_node-in-Var.ensures [] c.none-in-Var.ensures
    ∙ ap (λ (r : Result Bounds Kind). counted_of (weight r [])) (c.limited-in-Var.ensures ∙ ap limited leaf)
    ∙ ap counted_of (sym (weighed-Var c.args.spans.now c.in-Var.variable) ∙ ap (weighed c.args.spans.now) (sym c.in-Var.is))

pub count_nodes-returns-in_ok-operands-in-Node : goal.count_nodes-returns-in_ok-operands-in-Node
count_nodes-returns-in_ok-operands-in-Node t c =
    let es = c.as_slice.result.now in
    let ss = c.args.spans.now in
    let nodes = nodes_below (map (weighed ss) es) in
    c.with_node-in-Node.ensures nodes c.in_ok-operands-in-Node.ensures.total
    ∙ ap (λ (r : Result Bounds Kind). counted_of (weight r nodes)) (c.node.ensures ∙ gathered_of-node c.in-Node.op (all_ok (bounds_below (map (weighed ss) es))) c.in_ok-operands-in-Node.operands c.in_ok-operands-in-Node.ensures.operands)
    ∙ ap (λ (fs : List Expr). counted_of (weight (and_then (all_ok (bounds_below (map (weighed ss) fs))) (node_bounds c.in-Node.op)) (nodes_below (map (weighed ss) fs)))) c.as_slice.ensures
    ∙ ap counted_of (sym (weighed-Node ss c.in-Node.op c.in-Node.items) ∙ ap (weighed ss) (sym c.in-Node.is))

pub count_operands-loop-at-preserved : goal.count_operands-loop-at-preserved
count_operands-loop-at-preserved t c =
    let es = c.args.items.now in
    let ss = c.args.spans.now in
    let item = c.index-items-at.result in
    let known = counted-is (weighed ss item) c.in_ok-next.next (sym c.count_nodes.ensures ∙ c.in_ok-next.was) in
    record {
      operands =
          ap (λ (s : Operands). gathered_of c.args.op (c.loop-at.at + 1) s (all_ok (bounds_below (map (weighed ss) (drop (c.loop-at.at + 1) es))))) c.push-operands.ensures
          ∙ operands-next c.args.op ss es c.loop-at.at item c.in_ok-next.next.span c.loop-at.operands (omega arith) c.index-items-at.is known.0
          ∙ c.loop-at.invariant.operands;
      total =
          c.both-total.ensures (nodes_below (map (weighed ss) (take c.loop-at.at es))) (weighed ss item).nodes c.loop-at.invariant.total known.1
          ∙ ap totalled (sym (nodes-next ss es c.loop-at.at item (omega arith) c.index-items-at.is));
    }
