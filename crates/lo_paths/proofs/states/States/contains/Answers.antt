use Rattle.std.proofs.Common.{ℕ, Option, ap, ◌∙◌}
use Rattle.std.specs.Prelude.{is_some}
use Rattle.lo_paths.proofs.PlaceLemmas.{place_any}
use Rattle.lo_paths.proofs.states.States.contains.Goals as goal

pub returns : goal.returns
returns c = c.is_some.ensures ∙ ap (λ (o : Option ℕ). is_some o) c.place.ensures.value ∙ place_any c.args.self.now c.args.state
