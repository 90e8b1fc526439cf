use Rattle.xs_paths.proofs.Layers.{layer_is_live}
use Rattle.xs_paths.proofs.laws.layer_is_live.Goals as goal

pub returns : goal.returns
returns c = layer_is_live
