use Rattle.std.proofs.Common.{◌≡◌, drop}
use Rattle.xs_var.specs.Elements.{value_in}
use Rattle.xs_var.proofs.element.attribute.Given as goal

abbrev pub invariant-loop-attr : goal.invariant-loop-attr
invariant-loop-attr l = value_in l.name (drop l.attr-index l.attrs) ≡ value_in l.name l.attrs
