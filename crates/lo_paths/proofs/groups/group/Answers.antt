use Rattle.std.proofs.Common.{refl, sym, ◌∙◌}
use Rattle.lo_paths.proofs.GroupLemmas.{grouped_at, grouped_new}
use Rattle.lo_paths.proofs.groups.group.Goals as goal

pub returns-in_ok-push_at-in-Some : goal.returns-in_ok-push_at-in-Some
returns-in_ok-push_at-in-Some c = λ rs is. grouped_at rs c.args.arrival c.args.groups.now _ c.in-Some.at is (sym c.place.ensures.value ∙ c.in-Some.is) refl c.in_ok-push_at-in-Some.ensures

pub returns-in_ok-push_first-in-None : goal.returns-in_ok-push_first-in-None
returns-in_ok-push_first-in-None c = λ rs is. grouped_new rs c.args.arrival c.args.groups.now _ is (sym c.place.ensures.value ∙ c.in-None.is) c.in_ok-push-in-None.ensures c.in_ok-push_first-in-None.ensures
