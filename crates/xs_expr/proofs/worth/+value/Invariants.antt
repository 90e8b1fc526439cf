use Rattle.std.proofs.Common.{◌≡◌, map, drop}
use Rattle.std.specs.List.{list_any}
use Rattle.std.specs.Ordering.{int_eq}
use Rattle.xs_model.specs.Value.{val}
use Rattle.xs_expr.specs.Worths.{with_values, all_values, StepsFit}
use Rattle.xs_expr.proofs.worth.+value.Given as goal

abbrev pub invariant-contains-loop-member : goal.invariant-contains-loop-member
invariant-contains-loop-member l =
    list_any (int_eq l.value) (map (val l.a) (drop l.member-index l.members)) ≡ list_any (int_eq l.value) (map (val l.a) l.members)

abbrev pub invariant-values_of-loop-at : goal.invariant-values_of-loop-at
invariant-values_of-loop-at l = record {
  gathered : with_values l.op l.at l.values (map (val l.a) (drop l.at l.items)) ≡ all_values l.op (map (val l.a) l.items);
  fits : StepsFit l.op l.at l.values (map (val l.a) (drop l.at l.items));
}
