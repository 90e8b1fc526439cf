use Rattle.std.proofs.Common.{◌≡◌, ◌++◌, map, drop}
use Rattle.xf_markup.specs.Written.{written_piece, joined_bytes}
use Rattle.xf_markup.proofs.write.+write.Given as goal

abbrev pub invariant-put_pieces-loop-piece : goal.invariant-put_pieces-loop-piece
invariant-put_pieces-loop-piece l = l.out.items ++ joined_bytes (map written_piece (drop l.piece-index l.pieces)) ≡ l.initial.out.items ++ joined_bytes (map written_piece l.pieces)
