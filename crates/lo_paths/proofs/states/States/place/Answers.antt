use Rattle.std.proofs.Common.{◌≡◌, ◌<◌, ℕ, List, Option, None, length, get_or, sym, subst, ap, ◌∙◌}
use Rattle.std.specs.Prelude.{IfSome}
use Rattle.lo_paths.specs.Places.{place}
use Rattle.lo_paths.proofs.PlaceLemmas.{place_within}
use Rattle.lo_paths.proofs.states.States.place.Goals as goal

pub returns-clause-within : goal.returns-clause-within
returns-clause-within c =
    let inside = c.place_in.ensures ∙ ap (λ (ps : List (Option ℕ)). get_or ps c.args.state None) c.as_slice.ensures ∙ c.self.invariant c.args.state in
    let value : c.place_in.result ≡ place c.args.self.now c.args.state = inside ∙ ap (λ (qs : List ℕ). place qs c.args.state) c.self.view_is in
    subst (λ (o : Option ℕ). IfSome o (λ at. at < length c.args.self.now)) (sym value) (place_within c.args.self.now c.args.state)
