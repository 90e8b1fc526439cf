use Rattle.xs_file.proofs.SoundLemmas.{held_accepted}
use Rattle.xs_file.proofs.held.Held.into_instance.Goals as goal

pub returns-clause-accepted : goal.returns-clause-accepted
returns-clause-accepted c = held_accepted (record { decls = c.self.inside.decls; cells = c.self.inside.cells; values = c.self.inside.values }) c.self.inside.spans c.self.inside.constraints c.self.inside.objective c.self.inside.items c.self.invariant
