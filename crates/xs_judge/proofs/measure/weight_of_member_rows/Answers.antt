use Rattle.std.proofs.Common.{[], ◌∷◌, ◌∙◌, length}
use Rattle.xs_model.specs.Fields.{Variable}
use Rattle.xs_judge.proofs.FieldWeights.{flat_map-single, formed_rows, weight_of_rows}
use Rattle.xs_judge.proofs.measure.weight_of_member_rows.Goals as goal

pub weight_of_each-requires : goal.weight_of_each-requires
weight_of_each-requires c = formed_rows (λ x. Variable x ∷ []) Variable (flat_map-single Variable) (length c.args.spans.now) c.args.rows.now c.requires

pub returns : goal.returns
returns c = c.weight_of_each.ensures ∙ weight_of_rows (λ x. Variable x ∷ []) Variable (flat_map-single Variable) c.args.spans.now c.args.rows.now
