use Rattle.std.proofs.Common.{◌≡◌, drop}
use Rattle.std.specs.List.{list_all}
use Rattle.xs_var.specs.Like.{has_domain}
use Rattle.xs_var.proofs.like.have_domain.Given as goal

abbrev pub invariant-loop-cell : goal.invariant-loop-cell
invariant-loop-cell l = list_all (has_domain l.domain) (drop l.cell-index l.cells) ≡ list_all (has_domain l.domain) l.cells
