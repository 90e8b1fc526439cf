use Rattle.std.proofs.Common.{sym, ◌∙◌, ap, subst, length, map, take}
use Rattle.std.specs.List.{AllByRecursion, flat_map}
use Rattle.xs_model.specs.Formed.{IsFormedItem, total}
use Rattle.xs_model.specs.Magnitude.{item_magnitude}
use Rattle.xs_judge.specs.Weights.{weight_of_items}
use Rattle.xs_judge.proofs.FieldWeights.{all-left, all-right, flat_map-next, flat_map-rest, weight-append}
use Rattle.xs_judge.proofs.measure.weight_of_each.Goals as goal

pub weight-requires : goal.weight-requires
weight-requires g c =
    let split = flat_map-rest g.T.Weighed.items c.args.xs.now c.loop-x.x-index c.x-item.result c.loop-x-test.true c.x-item.is in
    all-left (IsFormedItem (length c.args.spans.now)) _ _ (subst (AllByRecursion (IsFormedItem (length c.args.spans.now))) split c.loop-x.invariant.rest)

pub loop-x-preserved : goal.loop-x-preserved
loop-x-preserved g c =
    let ss = c.args.spans.now in
    let items = g.T.Weighed.items in
    let before = flat_map items (take c.loop-x.x-index c.args.xs.now) in
    let next = flat_map-next items c.args.xs.now c.loop-x.x-index c.x-item.result c.loop-x-test.true c.x-item.is in
    let split = flat_map-rest items c.args.xs.now c.loop-x.x-index c.x-item.result c.loop-x-test.true c.x-item.is in
    record {
      total =
          c.and-total.ensures (total (map (item_magnitude ss) before)) (length before) (total (map (item_magnitude ss) (items c.x-item.result))) (length (items c.x-item.result)) c.loop-x.invariant.total c.weight.ensures
          ∙ weight-append ss before (items c.x-item.result)
          ∙ ap (weight_of_items ss) (sym next);
      rest = all-right (IsFormedItem (length ss)) (items c.x-item.result) _ (subst (AllByRecursion (IsFormedItem (length ss))) split c.loop-x.invariant.rest);
    }
