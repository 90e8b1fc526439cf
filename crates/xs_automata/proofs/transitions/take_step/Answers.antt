use Rattle.std.proofs.Common.{ap, sym, length, ◌∙◌}
use Rattle.xs_automata.specs.Transitions.{seen_step, steps_in}
use Rattle.xs_automata.proofs.ScanLemmas.{joined_some, read_unmet}
use Rattle.xs_fields.specs.Scanning.{joined}
use Rattle.xs_tables.specs.Groups.{is_room_for}
use Rattle.xs_automata.proofs.transitions.take_step.Goals as goal

pub returns-in-Err-clause-missed : goal.returns-in-Err-clause-missed
returns-in-Err-clause-missed c =
    let group = c.args.group.now in
    let room = is_room_for c.args.left (length c.args.edges.now) (length (steps_in group)) in
    let unmet = read_unmet group c.in-Err.condition (sym (ap (seen_step (λ x. x.now)) c.in-Err.is) ∙ c.read_step.ensures) in
    c.earlier.ensures.value ∙ sym (joined_some c.args.missed c.in-Err.condition room) ∙ ap (λ m. joined c.args.missed m room) (sym unmet.0)
