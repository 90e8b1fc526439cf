use Rattle.std.proofs.Common.{◌≡◌, ◌≤◌, map, max, drop}
use Rattle.xs_template.specs.Concrete.{greatest, template_asks}
use Rattle.xs_template.specs.Template.{asked_by}
use Rattle.xs_template.proofs.template.template_asks.Given as goal

abbrev pub invariant-loop-part : goal.invariant-loop-part
invariant-loop-part l = record {
  most : l.asked ≤ 4294967296;
  rest : max l.asked (greatest (map asked_by (map (λ p. p.spots) (drop l.part-index l.template.parts)))) ≡ template_asks l.template;
}
