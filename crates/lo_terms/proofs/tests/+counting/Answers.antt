use Rattle.std.proofs.Common.{ap, sym, arith, rules}
use Rattle.xs_model.specs.Formed.{nodes_of}
use Rattle.lo_terms.proofs.LowerLemmas.{nodes-node, nodes-int, nodes-var, nodes-more}
use Rattle.lo_terms.proofs.Within.{within-int, within-var, within-node, within-more}
use Rattle.lo_terms.proofs.tests.+counting.Goals as goal

pub all_within-loop-item-preserved : goal.all_within-loop-item-preserved
all_within-loop-item-preserved t c =
    let es = c.args.items.now in
    let i = c.loop-item.item-index in
    let item = c.item-item.result in
    let size = nodes-more es i item c.loop-item-test.true c.item-item.is in
    let more = c.in-Some.ensures.0 in
    let before = c.loop-item.invariant.sum in
    let added = c.in-Some-checked_add.ensures in
    record {
      sum = omega arith;
      whole = λ all. c.loop-item.invariant.whole (within-more c.args.variables i es item c.loop-item-test.true c.item-item.is c.in-Some.ensures.1 all);
    }

pub nodes_within-returns-in-Int : goal.nodes_within-returns-in-Int
nodes_within-returns-in-Int t c = (sym (nodes-int c.args.e.now c.in-Int.field-0 c.in-Int.is), within-int c.args.variables c.args.e.now c.in-Int.field-0 c.in-Int.is)

pub nodes_within-returns-then-number-variables : goal.nodes_within-returns-then-number-variables
nodes_within-returns-then-number-variables t c =
    (sym (nodes-var c.args.e.now c.in-Var.number c.in-Var.is), within-var c.args.variables c.args.e.now c.in-Var.number c.in-Var.is c.if-number-variables.true)

pub nodes_within-returns-in-Some : goal.nodes_within-returns-in-Some
nodes_within-returns-in-Some t c =
    let size = nodes-node c.args.e.now c.in-Node.field-0 c.in-Node.items c.in-Node.is in
    let same = ap nodes_of c.as_slice.ensures in
    let below = c.in-Some.ensures.0 in
    let within = within-node c.args.variables c.args.e.now c.in-Node.field-0 c.in-Node.items c.as_slice.result.now c.in-Node.is c.as_slice.ensures c.in-Some.ensures.1 in
    search rules
