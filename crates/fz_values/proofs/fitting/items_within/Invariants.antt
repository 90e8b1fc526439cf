use Rattle.std.proofs.Common.{◌≡◌, drop}
use Rattle.std.specs.List.{list_all}
use Rattle.fz_values.specs.Values.{one_in}
use Rattle.fz_values.specs.Kinds.{is_within}
use Rattle.fz_values.proofs.fitting.items_within.Given as goal

abbrev pub invariant-loop-item : goal.invariant-loop-item
invariant-loop-item l = list_all (λ x. is_within (one_in l.names x)) (drop l.item-index l.items) ≡ list_all (λ x. is_within (one_in l.names x)) l.items
