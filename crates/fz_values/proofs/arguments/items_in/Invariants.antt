use Rattle.std.proofs.Common.{◌≡◌, ◌++◌, drop, map}
use Rattle.fz_values.specs.Values.{one_in}
use Rattle.fz_values.specs.Kinds.{single_of}
use Rattle.fz_values.proofs.arguments.items_in.Given as goal

abbrev pub invariant-loop-item : goal.invariant-loop-item
invariant-loop-item l = l.row ++ map (λ x. single_of (one_in l.names x)) (drop l.item-index l.items) ≡ map (λ x. single_of (one_in l.names x)) l.items
