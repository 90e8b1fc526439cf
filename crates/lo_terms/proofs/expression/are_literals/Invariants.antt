use Rattle.std.proofs.Common.{◌≡◌, drop}
use Rattle.std.specs.List.{list_all}
use Rattle.lo_terms.specs.Lowering.{is_literal}
use Rattle.lo_terms.proofs.expression.are_literals.Given as goal

abbrev pub invariant-loop-item : goal.invariant-loop-item
invariant-loop-item l = list_all is_literal (drop l.item-index l.items) ≡ list_all is_literal l.items
