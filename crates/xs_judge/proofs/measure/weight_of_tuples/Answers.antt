use Rattle.std.proofs.Common.{[], ◌∷◌, ◌∙◌, length}
use Rattle.xs_model.specs.Fields.{entry_item}
use Rattle.xs_judge.proofs.FieldWeights.{flat_map-single, formed_rows, weight_of_rows}
use Rattle.xs_judge.proofs.measure.weight_of_tuples.Goals as goal

pub weight_of_each-requires : goal.weight_of_each-requires
weight_of_each-requires c = formed_rows (λ x. entry_item x ∷ []) entry_item (flat_map-single entry_item) (length c.args.spans.now) c.args.rows.now c.requires

pub returns : goal.returns
returns c = c.weight_of_each.ensures ∙ weight_of_rows (λ x. entry_item x ∷ []) entry_item (flat_map-single entry_item) c.args.spans.now c.args.rows.now
