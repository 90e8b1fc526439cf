use Rattle.std.proofs.Common.{◌≡◌, drop}
use Rattle.xs_template.specs.Template.{has_rest}
use Rattle.xs_template.proofs.template.has_rest.Given as goal

abbrev pub invariant-loop-spot : goal.invariant-loop-spot
invariant-loop-spot l = has_rest (drop l.spot-index l.spots) ≡ has_rest l.spots
