use Rattle.std.proofs.Common.{◌≡◌, subst, rules, to_z, of_z}
use Rattle.std.specs.Int.{w128}
use Rattle.xs_model.specs.Bounds.{HasVariable}
use Rattle.xs_model.specs.Formed.{HasSmallInteger}
use Rattle.xs_model.specs.Sound.{IsSmall}
use Rattle.xs_expr.proofs.Every.{made-int, made-var, made-node, made-more}
use Rattle.xs_judge.proofs.tests.+leaves.Goals as goal

pub have_leaves-loop-item-preserved : goal.have_leaves-loop-item-preserved
have_leaves-loop-item-preserved t c =
    let es = c.args.items.now in
    let i = c.loop-item.item-index in
    let item = c.item-item.result in
    let known = c.has_leaves.ensures in
    let yes = c.if-not-has_leaves.false in
    record {
      variables = λ all. c.loop-item.invariant.variables (made-more (HasVariable 2) i es item c.loop-item-test.true c.item-item.is (known.variables yes) all);
      small = λ all. c.loop-item.invariant.small (made-more HasSmallInteger i es item c.loop-item-test.true c.item-item.is (known.small yes) all);
    }

pub has_leaves-returns-in-Int-clause-variables : goal.has_leaves-returns-in-Int-clause-variables
has_leaves-returns-in-Int-clause-variables t c = λ yes. made-int (HasVariable 2) c.args.e.now c.in-Int.value c.in-Int.is tt

pub has_leaves-returns-in-Int-clause-small : goal.has_leaves-returns-in-Int-clause-small
has_leaves-returns-in-Int-clause-small t c = λ yes.
    let same : to_z w128 (of_z w128 c.in-Int.value) ≡ c.in-Int.value = search rules in
    made-int HasSmallInteger c.args.e.now c.in-Int.value c.in-Int.is (subst IsSmall same (c.is_small.ensures yes))

pub has_leaves-returns-in-Var-clause-variables : goal.has_leaves-returns-in-Var-clause-variables
has_leaves-returns-in-Var-clause-variables t c = λ yes. made-var (HasVariable 2) c.args.e.now c.in-Var.variable c.in-Var.is (search rules)

pub has_leaves-returns-in-Var-clause-small : goal.has_leaves-returns-in-Var-clause-small
has_leaves-returns-in-Var-clause-small t c = λ yes. made-var HasSmallInteger c.args.e.now c.in-Var.variable c.in-Var.is tt

pub has_leaves-returns-in-Node-clause-variables : goal.has_leaves-returns-in-Node-clause-variables
has_leaves-returns-in-Node-clause-variables t c = λ yes.
    made-node (HasVariable 2) c.args.e.now c.in-Node.field-0 c.in-Node.operands c.as_slice.result.now c.in-Node.is c.as_slice.ensures tt (c.have_leaves.ensures.variables yes)

pub has_leaves-returns-in-Node-clause-small : goal.has_leaves-returns-in-Node-clause-small
has_leaves-returns-in-Node-clause-small t c = λ yes.
    made-node HasSmallInteger c.args.e.now c.in-Node.field-0 c.in-Node.operands c.as_slice.result.now c.in-Node.is c.as_slice.ensures tt (c.have_leaves.ensures.small yes)
