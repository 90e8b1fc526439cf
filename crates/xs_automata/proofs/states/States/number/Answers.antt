use Rattle.std.proofs.Common.{◌≡◌, ℕ, List, sym, subst, ◌∙◌}
use Rattle.std.specs.Prelude.{IfOk, OnOk}
use Rattle.xs_automata.specs.Numbers.{with_name}
use Rattle.xs_automata.proofs.PlaceLemmas.{known_name, new_name, on_ok}
use Rattle.xs_automata.proofs.states.States.number.Goals as goal

pub returns-in-Some-clause-known : goal.returns-in-Some-clause-known
returns-in-Some-clause-known c = on_ok c.narrow.result (c.args.self.now ≡ with_name c.args.self.now c.args.name.now) (known_name c.args.self.now c.args.name.now c.in-Some.at (sym c.position.ensures ∙ c.in-Some.is)).1

pub returns-in-None-clause-value : goal.returns-in-None-clause-value
returns-in-None-clause-value c =
    subst (λ (m : ℕ). IfOk c.add.result (λ n. n ≡ m)) (new_name c.args.self.now c.args.name.now (sym c.position.ensures ∙ c.in-None.is)).0 c.add.ensures.value

pub returns-in-None-clause-known : goal.returns-in-None-clause-known
returns-in-None-clause-known c =
    subst (λ (ks : List (List ℕ)). OnOk c.add.result (c.add.new.self ≡ ks)) (new_name c.args.self.now c.args.name.now (sym c.position.ensures ∙ c.in-None.is)).1 c.add.ensures.known
