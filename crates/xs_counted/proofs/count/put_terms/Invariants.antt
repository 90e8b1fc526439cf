use Rattle.std.proofs.Common.{◌≡◌, ◌≤◌, ◌+◌, ◌++◌, drop, length, map}
use Rattle.std.specs.List.{AllByRecursion}
use Rattle.xs_forms.specs.Room.{with_values}
use Rattle.xs_model.specs.Fields.{item_of}
use Rattle.xs_model.specs.Formed.{IsFormedItem}
use Rattle.xs_model.specs.Instance.{term_values}
use Rattle.xs_counted.proofs.count.put_terms.Given as goal

abbrev pub invariant-loop-term : goal.invariant-loop-term
invariant-loop-term l = record {
  same : l.scratch ≡ with_values l.initial.scratch l.scratch.values;
  so_far : l.scratch.values ++ term_values l.a (drop l.term-index l.terms) ≡ term_values l.a l.terms;
  formed : AllByRecursion (IsFormedItem (length l.a)) (map item_of (drop l.term-index l.terms));
  room : length l.scratch.values + length (drop l.term-index l.terms) ≤ l.scratch.most;
}
