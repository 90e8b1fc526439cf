use Rattle.std.proofs.Common.{Bool, List, true, take, ap, sym, ◌∙◌}
use Rattle.std.specs.Prelude.{not}
use Rattle.xs_forms.specs.Room.{Room, flags_in}
use Rattle.xs_automata.proofs.FlagLemmas.{marked_then, set_here}
use Rattle.xs_model.specs.Value.{at}
use Rattle.xs_automata.proofs.holds.pass.Goals as goal

pub returns-then-read-clause-value : goal.returns-then-read-clause-value
returns-then-read-clause-value c =
    let room = c.args.scratch.now in
    let second = c.args.second in
    let e = c.args.edge.now in
    ap (λ (r : Room). take c.args.count (flags_in (not second) r)) c.mark.ensures
    ∙ ap (λ (bs : List Bool). take c.args.count bs) (set_here room (not second) e.to true)
    ∙ marked_then c.args.count (flags_in second room) (flags_in (not second) room) (at c.args.a.now c.args.variable) e c.requires.from c.requires.to (sym c.if-read.true ∙ c.is_read-read.ensures)
