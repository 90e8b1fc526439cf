use Rattle.std.proofs.Common.{◌≡◌, ◌≤◌, ◌+◌, length, map}
use Rattle.std.specs.List.{AllByRecursion}
use Rattle.xs_model.specs.Fields.{item_of}
use Rattle.xs_model.specs.Formed.{IsFormedItem}
use Rattle.xs_model.specs.Instance.{term_values, values}
use Rattle.xs_model.specs.Sound.{magnitudes}
use Rattle.xs_tasks.specs.Tested.{are_ends, size_of}
use Rattle.xs_testing.specs.Rows.{AreBelow}
use Rattle.xs_tasks.proofs.holds.are_ends.Given as goal

abbrev pub invariant-loop-start : goal.invariant-loop-start
invariant-loop-start l = record {
  so_far : are_ends (values l.a l.starts) (term_values l.a l.spans) (values l.a l.rest) ≡ are_ends (values l.a l.origins) (term_values l.a l.lengths) (values l.a l.ends);
  small : size_of (values l.a l.starts) + size_of (term_values l.a l.spans) ≤ magnitudes;
  origins : AreBelow (length l.a) l.starts;
  lengths : AllByRecursion (IsFormedItem (length l.a)) (map item_of l.spans);
  ends : AreBelow (length l.a) l.rest;
}

abbrev pub decreases-loop-start : goal.decreases-loop-start
decreases-loop-start l = length l.starts
