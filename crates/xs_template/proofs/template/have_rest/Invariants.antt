use Rattle.std.proofs.Common.{◌≡◌, drop, map}
use Rattle.std.specs.List.{list_any}
use Rattle.xs_template.specs.Template.{has_rest}
use Rattle.xs_template.proofs.template.have_rest.Given as goal

abbrev pub invariant-loop-pattern : goal.invariant-loop-pattern
invariant-loop-pattern l = list_any has_rest (map (λ p. p.spots) (drop l.pattern-index l.patterns)) ≡ list_any has_rest (map (λ p. p.spots) l.patterns)
