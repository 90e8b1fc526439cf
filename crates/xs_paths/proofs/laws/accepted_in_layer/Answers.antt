use Rattle.xs_paths.proofs.Layers.{accepted_in_layer}
use Rattle.xs_paths.proofs.laws.accepted_in_layer.Goals as goal

pub returns : goal.returns
returns c = accepted_in_layer
