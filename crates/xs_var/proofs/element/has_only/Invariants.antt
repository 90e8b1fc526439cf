use Rattle.std.proofs.Common.{◌≡◌, drop, map}
use Rattle.xs_var.specs.Elements.{has_only}
use Rattle.xs_var.proofs.element.has_only.Given as goal

abbrev pub invariant-loop-attr : goal.invariant-loop-attr
invariant-loop-attr l = has_only (map (λ name. name.now) l.names) (drop l.attr-index l.attrs) ≡ has_only (map (λ name. name.now) l.names) l.attrs
