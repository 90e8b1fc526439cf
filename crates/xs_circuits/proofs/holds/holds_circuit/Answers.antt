use Rattle.std.proofs.Common.{◌∙◌, sym}
use Rattle.std.proofs.lemmas.Bool.{true≢false}
use Rattle.xs_circuits.proofs.WalkLemmas.{inside, no_index}
use Rattle.xs_circuits.proofs.holds.holds_circuit.Goals as goal

pub is_sized_circuit-requires-clause-inside : goal.is_sized_circuit-requires-clause-inside
is_sized_circuit-requires-clause-inside c = inside c.args.a.now c.args.list.now c.args.start.now c.args.size.now (sym c.are_indices.ensures ∙ c.if-are_indices.true)

pub returns-else-are_indices : goal.returns-else-are_indices
returns-else-are_indices c =
    let none = no_index c.args.a.now c.args.list.now c.args.start.now c.args.size.now (sym c.are_indices.ensures ∙ c.if-are_indices.false) in
    (λ h. absurd (true≢false (sym h ∙ c.if-are_indices.false)), λ h. absurd (none h))
