use Rattle.std.proofs.Common.{◌∙◌, sym}
use Rattle.std.proofs.lemmas.Bool.{true≢false}
use Rattle.xs_circuits.proofs.WalkLemmas.{none_moved, walk_decides}
use Rattle.xs_circuits.proofs.holds.is_sized_circuit.Goals as goal

pub returns-in-None : goal.returns-in-None
returns-in-None c =
    let none = none_moved c.args.a.now c.args.list.now c.args.start.now c.args.size.now c.in-None.ensures in
    (λ h. absurd (true≢false (sym h)), λ h. absurd (none h))

pub goes_round-requires-clause-home : goal.goes_round-requires-clause-home
goes_round-requires-clause-home c = c.in-Some.ensures.1

pub returns-then-goes_round : goal.returns-then-goes_round
returns-then-goes_round c =
    let first = c.in-Some.ensures in
    let law = walk_decides c.args.a.now c.args.list.now c.args.start.now c.args.size.now c.in-Some.home c.moved_places-nodes.result c.requires.inside first.0 first.1 c.moved_places-nodes.ensures in
    (λ h. law.0 (sym c.goes_round.ensures ∙ c.if-goes_round.true, c.is_size.ensures.0 h), λ h. c.is_size.ensures.1 (law.1 h).1)

pub returns-else-goes_round : goal.returns-else-goes_round
returns-else-goes_round c =
    let first = c.in-Some.ensures in
    let law = walk_decides c.args.a.now c.args.list.now c.args.start.now c.args.size.now c.in-Some.home c.moved_places-nodes.result c.requires.inside first.0 first.1 c.moved_places-nodes.ensures in
    (λ h. absurd (true≢false (sym h ∙ c.if-goes_round.false)), λ h. c.goes_round.ensures ∙ (law.1 h).0)
