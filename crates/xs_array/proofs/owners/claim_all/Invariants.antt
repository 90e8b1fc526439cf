use Rattle.std.proofs.Common.{drop}
use Rattle.xs_var.specs.Elements.{children_of}
use Rattle.xs_array.proofs.OwnerLemmas.{Claiming}
use Rattle.xs_array.proofs.owners.claim_all.Given as goal

abbrev pub invariant-loop-piece : goal.invariant-loop-piece
invariant-loop-piece l = Claiming l.sizes l.domains l.apart l.owners (children_of (drop l.piece-index l.pieces)) (children_of l.pieces)
