use Rattle.std.proofs.Common.{◌≡◌, length}
use Rattle.std.specs.List.{AllByRecursion, flat_map}
use Rattle.xs_model.specs.Fields.{occurrence_items}
use Rattle.xs_model.specs.Formed.{IsFormedItem}
use Rattle.xs_counted.specs.Tests.{are_said}
use Rattle.xs_counted.proofs.cardinality.are_said.Given as goal

abbrev pub invariant-loop-due : goal.invariant-loop-due
invariant-loop-due l = record {
  so_far : are_said l.a l.dues l.saids l.sorted ≡ are_said l.a l.values l.occurs l.sorted;
  formed : AllByRecursion (IsFormedItem (length l.a)) (flat_map occurrence_items l.saids);
}

abbrev pub decreases-loop-due : goal.decreases-loop-due
decreases-loop-due l = length l.dues
