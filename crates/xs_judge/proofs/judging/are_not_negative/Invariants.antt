use Rattle.std.proofs.Common.{◌≡◌, map, drop, length}
use Rattle.std.specs.List.{AllByRecursion}
use Rattle.xs_model.specs.Fields.{item_of}
use Rattle.xs_model.specs.Formed.{IsFormedItem}
use Rattle.xs_model.specs.Magnitude.{are_not_negative}
use Rattle.xs_judge.proofs.judging.are_not_negative.Given as goal

abbrev pub invariant-loop-term : goal.invariant-loop-term
invariant-loop-term l = record {
  rest : are_not_negative l.spans (drop l.term-index l.terms) ≡ are_not_negative l.spans l.terms;
  formed : AllByRecursion (IsFormedItem (length l.spans)) (map item_of (drop l.term-index l.terms));
}
