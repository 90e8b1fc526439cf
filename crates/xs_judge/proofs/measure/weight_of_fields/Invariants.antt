use Rattle.std.proofs.Common.{◌≡◌, take, drop, length}
use Rattle.std.specs.List.{flat_map}
use Rattle.xs_model.specs.Formed.{AreFormed}
use Rattle.xs_forms.specs.Seen.{seen}
use Rattle.xs_judge.specs.Weights.{weight_of_fields}
use Rattle.xs_model.specs.Magnitude.{AreBounded}
use Rattle.xs_judge.proofs.measure.weight_of_fields.Given as goal

abbrev pub invariant-loop-field : goal.invariant-loop-field
invariant-loop-field l = record {
  total : l.total ≡ weight_of_fields l.spans (flat_map seen (take l.field-index l.fields));
  formed : AreFormed (length l.spans) (flat_map seen (drop l.field-index l.fields));
  bounded : AreBounded l.spans (flat_map seen (drop l.field-index l.fields));
}
