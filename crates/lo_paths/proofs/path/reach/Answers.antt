use Rattle.std.proofs.Common.{Some, List, get_or, ap, sym, ◌∙◌}
use Rattle.lo_emit.specs.declared.term.Term.{Term}
use Rattle.lo_paths.proofs.PlaceLemmas.{reach_none_at, reach_some_at}
use Rattle.lo_paths.proofs.path.reach.Goals as goal

pub returns-in-Some : goal.returns-in-Some
returns-in-Some c =
    ap (λ (ts : List Term). Some (get_or ts c.in-Some.at _)) c.as_slice.ensures
    ∙ sym (reach_some_at c.args.layer.now.states c.args.layer.now.truths c.args.state c.in-Some.at _ c.requires (sym c.place.ensures.value ∙ c.in-Some.is))

pub returns-in-None : goal.returns-in-None
returns-in-None c = sym (reach_none_at c.args.layer.now.states c.args.layer.now.truths c.args.state (sym c.place.ensures.value ∙ c.in-None.is))
