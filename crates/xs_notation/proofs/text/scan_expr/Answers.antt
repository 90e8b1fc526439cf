use Rattle.std.proofs.Common.{◌<◌, arith, sym, ◌∙◌}
use Rattle.xs_notation.proofs.CountedLemmas.{counted-few, counted-many, counted-refused, nodes-few}
use Rattle.xs_notation.specs.Count.{nodes_of}
use Rattle.xs_notation.proofs.text.scan_expr.Goals as goal

pub returns-in-Some-clause-missed : goal.returns-in-Some-clause-missed
returns-in-Some-clause-missed c = c.in-Some.is ∙ counted-refused c.args.names.now c.args.left c.args.text.now c.in-Some.field-0 (sym c.in-Some.is ∙ c.in_ok-reading.ensures.missed)

pub returns-in-None-count_nodes-clause-missed : goal.returns-in-None-count_nodes-clause-missed
returns-in-None-count_nodes-clause-missed c =
    let many : c.args.left < nodes_of c.args.text.now = omega (arith, c.in-None-count_nodes.ensures) in
    c.without.ensures ∙ counted-many c.args.names.now c.args.left c.args.text.now (sym c.in-None.is ∙ c.in_ok-reading.ensures.missed) many

pub returns-in-Some-count_nodes-clause-missed : goal.returns-in-Some-count_nodes-clause-missed
returns-in-Some-count_nodes-clause-missed c =
    c.in-None.is ∙ counted-few c.args.names.now c.args.left c.args.text.now (sym c.in-None.is ∙ c.in_ok-reading.ensures.missed) c.in-Some-count_nodes.ensures.0

pub returns-in-Some-count_nodes-clause-few : goal.returns-in-Some-count_nodes-clause-few
returns-in-Some-count_nodes-clause-few c = λ h.
    nodes-few c.args.names.now c.args.left c.args.text.now c.in_ok-reading.reading.value (c.in_ok-reading.ensures.value h) (sym c.in-None.is ∙ c.in_ok-reading.ensures.missed) c.in-Some-count_nodes.ensures.0
