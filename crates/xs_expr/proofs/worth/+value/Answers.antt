use Rattle.std.proofs.Common.{◌≡◌, ℕ, ◌+◌, suc, ℤ, List, ◌∷◌, rules, arith, map, drop, length, subst, ap, sym, ◌∙◌, to_z, of_z}
use Rattle.std.specs.Int.{w128}
use Rattle.std.specs.List.{list_any}
use Rattle.std.specs.Ordering.{int_eq}
use Rattle.xs_model.specs.declared.expr.Op.{Op}
use Rattle.xs_model.specs.declared.expr.Op.TheVariants.{In, NotIn}
use Rattle.xs_model.specs.declared.expr.Expr.{Expr, Node, the_lemmas}
use Rattle.xs_model.specs.Value.{val, worth, at, second_members}
use Rattle.xs_model.specs.Shape.{IsCount}
use Rattle.xs_expr.specs.Worths.{Fits, FitsAt, StepsFit, NodeFits, all_values, no_values, with_value}
use Rattle.xs_expr.proofs.Every.{every-operands, every-node, every-var}
use Rattle.xs_expr.proofs.Layers.{val-Node}
use Rattle.xs_expr.proofs.Members.{first-value, members-of-set, members-of-node, members-of-int, members-of-var, values-next, steps-next, values-with}
use Rattle.xs_expr.proofs.Totals.{all-node}
use Rattle.xs_expr.proofs.worth.+value.Goals as goal

pub value_of-bounds-a-variable : goal.value_of-bounds-a-variable
value_of-bounds-a-variable t c = every-var (FitsAt c.args.a.now) _ _ c.in-Var.is c.requires

pub value_of-is_member-requires : goal.value_of-is_member-requires
value_of-is_member-requires t c =
    let node = every-node (FitsAt c.args.a.now) _ _ _ c.in-Node.is c.requires in (
      search (rules, the_lemmas),
      (
        every-operands (FitsAt c.args.a.now) _ _ _ _ c.in-Node.is c.as_slice.ensures c.requires,
        ap length c.as_slice.ensures ∙ subst (λ op. IsCount op (length c.in-Node.items)) c.in-In.is node.0,
      ),
    )

pub value_of-is_member-requires-in-NotIn : goal.value_of-is_member-requires-in-NotIn
value_of-is_member-requires-in-NotIn t c =
    let node = every-node (FitsAt c.args.a.now) _ _ _ c.in-Node.is c.requires in (
      search (rules, the_lemmas),
      (
        every-operands (FitsAt c.args.a.now) _ _ _ _ c.in-Node.is c.as_slice-in-NotIn.ensures c.requires,
        ap length c.as_slice-in-NotIn.ensures ∙ subst (λ op. IsCount op (length c.in-Node.items)) c.in-NotIn.is node.0,
      ),
    )

pub value_of-values_of-values-requires : goal.value_of-values_of-values-requires
value_of-values_of-values-requires t c =
    let node = every-node (FitsAt c.args.a.now) _ _ _ c.in-Node.is c.requires in (
      search (rules, the_lemmas),
      (
        every-operands (FitsAt c.args.a.now) _ _ _ _ c.in-Node.is c.as_slice-in_default.ensures c.requires,
        subst (λ (es : List Expr). StepsFit c.in-Node.op 0 (no_values c.in-Node.op) (map (val c.args.a.now) es)) (sym c.as_slice-in_default.ensures) node.1.0,
      ),
    )

pub value_of-node-requires : goal.value_of-node-requires
value_of-node-requires t c =
    let node = every-node (FitsAt c.args.a.now) _ _ _ c.in-Node.is c.requires in
    subst (NodeFits c.in-Node.op) (sym c.values_of-values.ensures)
    (subst (λ (es : List Expr). NodeFits c.in-Node.op (all_values c.in-Node.op (map (val c.args.a.now) es))) (sym c.as_slice-in_default.ensures) node.1.1)

pub value_of-returns-in-In : goal.value_of-returns-in-In
value_of-returns-in-In t c =
    let is = ap (val c.args.a.now) (c.in-Node.is ∙ ap (λ (op : Op). Node op c.in-Node.items) c.in-In.is) ∙ val-Node c.args.a.now In c.in-Node.items in
    search (rules, the_lemmas)

pub value_of-returns-in-NotIn : goal.value_of-returns-in-NotIn
value_of-returns-in-NotIn t c =
    let is = ap (val c.args.a.now) (c.in-Node.is ∙ ap (λ (op : Op). Node op c.in-Node.items) c.in-NotIn.is) ∙ val-Node c.args.a.now NotIn c.in-Node.items in
    search (rules, the_lemmas)

pub value_of-returns-in_default : goal.value_of-returns-in_default
value_of-returns-in_default t c =
    let is = ap (val c.args.a.now) c.in-Node.is ∙ val-Node c.args.a.now c.in-Node.op c.in-Node.items in
    let node = all-node (map (val c.args.a.now) c.in-Node.items) (second_members (map (worth c.args.a.now) c.in-Node.items)) c.in-Node.op c.in_default.not-Set c.in_default.not-In c.in_default.not-NotIn in
    search (rules, the_lemmas)

pub values_of-loop-at-preserved : goal.values_of-loop-at-preserved
values_of-loop-at-preserved t c =
    let next = values-next c.args.a.now c.args.items.now c.loop-at.at c.index-items-at.result (omega arith) c.index-items-at.is in
    let place : c.loop-at.at + 1 ≡ suc c.loop-at.at = omega arith in
    let same : to_z w128 (of_z w128 c.value_of-next.result) ≡ c.value_of-next.result = search rules in
    let pushed = c.push-values.ensures ∙ ap (with_value c.args.op c.loop-at.at c.loop-at.values) same in
    let item : val c.args.a.now c.index-items-at.result ≡ c.value_of-next.result = search rules in
    let rest : map (val c.args.a.now) (drop c.loop-at.at c.args.items.now) ≡ c.value_of-next.result ∷ map (val c.args.a.now) (drop (c.loop-at.at + 1) c.args.items.now) = next ∙ ap (λ (n : ℕ). val c.args.a.now c.index-items-at.result ∷ map (val c.args.a.now) (drop n c.args.items.now)) (sym place) ∙ ap (λ (x : ℤ). x ∷ map (val c.args.a.now) (drop (c.loop-at.at + 1) c.args.items.now)) item in
    record {
      gathered = values-with c.args.op c.loop-at.at (c.loop-at.at + 1) c.loop-at.values c.push-values.result _ _ c.value_of-next.result rest pushed place ∙ c.loop-at.invariant.gathered;
      fits = steps-next c.args.op c.loop-at.at (c.loop-at.at + 1) c.loop-at.values c.push-values.result _ _ c.value_of-next.result rest pushed place c.loop-at.invariant.fits;
    }

pub is_member-contains-requires : goal.is_member-contains-requires
is_member-contains-requires t c =
    let second = subst (Fits c.args.a.now) (sym c.index-items-1.is) (c.requires.all 1 c.index-items-1.result (omega arith)) in (
      search (rules, the_lemmas),
      every-operands (FitsAt c.args.a.now) _ _ _ _ c.in-Node.is c.as_slice.ensures second,
    )

pub is_member-returns-in-Set : goal.is_member-returns-in-Set
is_member-returns-in-Set t c =
    let first = first-value c.args.a.now c.args.items.now c.index-items-0.result (omega arith) c.index-items-0.is in
    let members = members-of-set c.args.a.now c.args.items.now c.index-items-1.result c.in-Node.members (omega arith) c.index-items-1.is (c.in-Node.is ∙ ap (λ (op : Op). Node op c.in-Node.members) c.in-Set.is) in
    search (rules, the_lemmas)

pub is_member-returns-in_default : goal.is_member-returns-in_default
is_member-returns-in_default t c =
    let members = members-of-node c.args.a.now c.args.items.now c.index-items-1.result c.in-Node.op c.in-Node.members (omega arith) c.index-items-1.is c.in-Node.is c.in_default.not-Set in
    sym (ap (list_any (int_eq (at (map (val c.args.a.now) c.args.items.now) 0))) members)

pub is_member-returns-in-Int : goal.is_member-returns-in-Int
is_member-returns-in-Int t c =
    let members = members-of-int c.args.a.now c.args.items.now c.index-items-1.result _ (omega arith) c.index-items-1.is c.in-Int.is in
    sym (ap (list_any (int_eq (at (map (val c.args.a.now) c.args.items.now) 0))) members)

pub is_member-returns-in-Var : goal.is_member-returns-in-Var
is_member-returns-in-Var t c =
    let members = members-of-var c.args.a.now c.args.items.now c.index-items-1.result _ (omega arith) c.index-items-1.is c.in-Var.is in
    sym (ap (list_any (int_eq (at (map (val c.args.a.now) c.args.items.now) 0))) members)
