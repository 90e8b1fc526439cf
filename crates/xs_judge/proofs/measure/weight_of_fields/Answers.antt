use Rattle.std.proofs.Common.{sym, ◌∙◌, ap, subst, length, map, take}
use Rattle.std.specs.List.{AllByRecursion, flat_map}
use Rattle.xs_model.specs.Formed.{IsFormedField, total, count_in}
use Rattle.xs_model.specs.Magnitude.{field_magnitude}
use Rattle.xs_forms.specs.Seen.{seen}
use Rattle.xs_judge.specs.Weights.{weight_of_fields}
use Rattle.xs_model.specs.Magnitude.{IsBoundedField}
use Rattle.xs_judge.proofs.FieldWeights.{all-left, all-right, flat_map-next, flat_map-rest, weight_of_fields-append}
use Rattle.xs_judge.proofs.measure.weight_of_fields.Goals as goal

pub weight_of_field-requires : goal.weight_of_field-requires
weight_of_field-requires c =
    let ss = c.args.spans.now in
    let split = flat_map-rest seen c.args.fields.now c.loop-field.field-index c.field-item.result c.loop-field-test.true c.field-item.is in
    record {
      formed = all-left (IsFormedField (length ss)) _ _ (subst (AllByRecursion (IsFormedField (length ss))) split c.loop-field.invariant.formed);
      bounded = all-left (IsBoundedField ss) _ _ (subst (AllByRecursion (IsBoundedField ss)) split c.loop-field.invariant.bounded);
    }

pub loop-field-preserved : goal.loop-field-preserved
loop-field-preserved c =
    let ss = c.args.spans.now in
    let before = flat_map seen (take c.loop-field.field-index c.args.fields.now) in
    let own = seen c.field-item.result in
    let next = flat_map-next seen c.args.fields.now c.loop-field.field-index c.field-item.result c.loop-field-test.true c.field-item.is in
    let split = flat_map-rest seen c.args.fields.now c.loop-field.field-index c.field-item.result c.loop-field-test.true c.field-item.is in
    record {
      total =
          c.and-total.ensures (total (map (field_magnitude ss) before)) (count_in before) (total (map (field_magnitude ss) own)) (count_in own) c.loop-field.invariant.total c.weight_of_field.ensures
          ∙ weight_of_fields-append ss before own
          ∙ ap (weight_of_fields ss) (sym next);
      formed = all-right (IsFormedField (length ss)) own _ (subst (AllByRecursion (IsFormedField (length ss))) split c.loop-field.invariant.formed);
      bounded = all-right (IsBoundedField ss) own _ (subst (AllByRecursion (IsBoundedField ss)) split c.loop-field.invariant.bounded);
    }
