use Rattle.std.proofs.Common.{◌≡◌, ◌≤◌, ◌+◌, ◌+ℤ◌, nat_abs, length, map}
use Rattle.std.specs.List.{AllByRecursion}
use Rattle.xs_model.specs.Fields.{item_of}
use Rattle.xs_model.specs.Formed.{IsFormedItem}
use Rattle.xs_model.specs.Instance.{term_values, values}
use Rattle.xs_model.specs.Schedule.{load}
use Rattle.xs_model.specs.Sound.{magnitudes}
use Rattle.xs_model.specs.Value.{at}
use Rattle.xs_tasks.specs.Tested.{size_of}
use Rattle.xs_testing.specs.Rows.{AreBelow}
use Rattle.xs_tasks.proofs.load.load_at.Given as goal

abbrev pub invariant-loop-start : goal.invariant-loop-start
invariant-loop-start l = record {
  time : l.sum.time ≡ at l.a l.origin;
  so_far : l.sum.height +ℤ load (at l.a l.origin) (values l.a l.starts) (term_values l.a l.spans) (term_values l.a l.rest) ≡ load (at l.a l.origin) (values l.a l.origins) (term_values l.a l.lengths) (term_values l.a l.heights);
  small : nat_abs l.sum.height + ((size_of (values l.a l.starts) + size_of (term_values l.a l.spans)) + size_of (term_values l.a l.rest)) ≤ magnitudes;
  origins : AreBelow (length l.a) l.starts;
  lengths : AllByRecursion (IsFormedItem (length l.a)) (map item_of l.spans);
  heights : AllByRecursion (IsFormedItem (length l.a)) (map item_of l.rest);
}

abbrev pub decreases-loop-start : goal.decreases-loop-start
decreases-loop-start l = length l.starts
