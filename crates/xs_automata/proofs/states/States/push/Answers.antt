use Rattle.xs_automata.proofs.PlaceLemmas.{pushed}
use Rattle.xs_automata.proofs.states.States.push.Goals as goal

pub returns : goal.returns
returns c =
    pushed (λ k. k.items) c.self.inside.names.keys c.insert.new.self.keys c.in_ok-name.name c.args.self.now c.args.name.now c.self.view_is c.in_ok-name.ensures.items c.requires c.in_ok-insert.ensures.keys
