use Rattle.std.proofs.Common.{◌≡◌, ◌≤◌, max, drop}
use Rattle.xs_template.specs.Template.{asked_by}
use Rattle.xs_template.proofs.cutting.asked_by.Given as goal

abbrev pub invariant-loop-spot : goal.invariant-loop-spot
invariant-loop-spot l = record {
  most : l.asked ≤ 4294967296;
  rest : max l.asked (asked_by (drop l.spot-index l.spots)) ≡ asked_by l.spots;
}
