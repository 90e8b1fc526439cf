use Rattle.std.proofs.Common.{◌≡◌, ℕ, List, None, sym, subst}
use Rattle.lo_paths.specs.Places.{place}
use Rattle.lo_paths.proofs.PlaceLemmas.{table_pushed}
use Rattle.lo_paths.proofs.states.States.push.Goals as goal

pub invariant_of-self-2 : goal.invariant_of-self-2
invariant_of-self-2 c =
    let none : place c.self.inside.listed c.args.state ≡ None = subst (λ (qs : List ℕ). place qs c.args.state ≡ None) (sym c.self.view_is) c.requires in
    table_pushed c.self.inside.listed c.push.new.self c.self.inside.places c.widen.new.places c.replace.new.self c.args.state c.len-at.result c.self.invariant c.widen.ensures.same none c.in_ok-widen.ensures.long c.len-at.ensures c.replace.ensures.after
    c.in_ok-push.ensures.ok
