use Rattle.std.proofs.Common.{drop}
use Rattle.xf_num.specs.Domain.{LowsFollow}
use Rattle.xf_num.proofs.domain.do_follow.Given as goal

abbrev pub invariant-loop-piece : goal.invariant-loop-piece
invariant-loop-piece l = LowsFollow l.last (drop l.piece-index l.pieces) → LowsFollow l.low l.pieces
