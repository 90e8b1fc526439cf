use Rattle.std.proofs.Common.{◌≡◌, length, map}
use Rattle.std.specs.List.{AllByRecursion}
use Rattle.xs_model.specs.Fields.{item_of}
use Rattle.xs_model.specs.Formed.{IsFormedItem}
use Rattle.xs_model.specs.Instance.{term_values, values}
use Rattle.xs_testing.specs.Rows.{AreBelow}
use Rattle.xs_compared.specs.Tests.{is_spaced}
use Rattle.xs_compared.proofs.neighbours.is_spaced.Given as goal

abbrev pub invariant-loop-variable : goal.invariant-loop-variable
invariant-loop-variable l = record {
  so_far : is_spaced l.rel (term_values l.a l.spaces) (values l.a l.rest) ≡ is_spaced l.rel (term_values l.a l.lengths) (values l.a l.list);
  valued : AreBelow (length l.a) l.rest;
  lengths : AllByRecursion (IsFormedItem (length l.a)) (map item_of l.spaces);
}

abbrev pub decreases-loop-variable : goal.decreases-loop-variable
decreases-loop-variable l = length l.rest
