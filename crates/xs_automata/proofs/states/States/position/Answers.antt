use Rattle.std.proofs.Common.{ap, sym, ◌∙◌}
use Rattle.std.specs.List.{position}
use Rattle.std.specs.Str.{bytes_eq}
use Rattle.xs_automata.proofs.PlaceLemmas.{position_map}
use Rattle.xs_automata.proofs.states.States.position.Goals as goal

pub returns : goal.returns
returns c =
    c.get_index_of.ensures.index ∙ sym (position_map (λ k. k.items) (bytes_eq c.args.name.now) c.self.inside.names.keys) ∙ ap (position (bytes_eq c.args.name.now)) c.self.view_is
