use Rattle.std.proofs.Common.{◌≡◌, ℕ, List, sym, subst, ◌∙◌}
use Rattle.std.specs.Prelude.{OnOk}
use Rattle.lo_paths.proofs.PlaceLemmas.{new_with, same_with}
use Rattle.lo_paths.proofs.states.States.put.Goals as goal

pub returns-in-Some : goal.returns-in-Some
returns-in-Some c = sym (same_with c.args.self.now c.args.state _ (sym c.place.ensures.value ∙ c.in-Some.is))

pub returns-in-None : goal.returns-in-None
returns-in-None c = subst (λ (qs : List ℕ). OnOk c.push.result (c.push.new.self ≡ qs)) (sym (new_with c.args.self.now c.args.state (sym c.place.ensures.value ∙ c.in-None.is))) c.push.ensures
