use Rattle.std.proofs.Common.{◌≡◌, ◌++◌, drop}
use Rattle.std.specs.List.{flat_map}
use Rattle.xs_template.specs.Template.{filled, spot_text}
use Rattle.xs_template.proofs.filling.fill.Given as goal

abbrev pub invariant-loop-spot : goal.invariant-loop-spot
invariant-loop-spot l = l.text ++ flat_map (spot_text l.words l.asked) (drop l.spot-index l.spots) ≡ filled l.words l.asked l.spots
