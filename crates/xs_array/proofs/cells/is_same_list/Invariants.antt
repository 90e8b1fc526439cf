use Rattle.std.proofs.Common.{◌≡◌, drop}
use Rattle.xs_array.specs.Cells.{is_same_list}
use Rattle.xs_array.proofs.cells.is_same_list.Given as goal

abbrev pub invariant-loop-size : goal.invariant-loop-size
invariant-loop-size l = is_same_list (drop l.size-index l.sizes) l.rest ≡ is_same_list l.sizes l.others
