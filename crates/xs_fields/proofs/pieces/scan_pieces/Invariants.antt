use Rattle.std.proofs.Common.{◌≡◌, ◌++◌, length}
use Rattle.std.specs.List.{flat_map}
use Rattle.xs_fields.specs.Conditions.{all_meet, earlier_of, first_missed}
use Rattle.xs_fields.specs.Lists.{piece_meets, pieces_in, pieces_meet, pieces_of}
use Rattle.xs_fields.specs.Words.{words_of}
use Rattle.xs_fields.proofs.pieces.scan_pieces.Given as goal

abbrev pub invariant-loop-word : goal.invariant-loop-word
invariant-loop-word l = record {
  missed : earlier_of l.missed (first_missed (all_meet piece_meets (words_of l.rest))) ≡ first_missed (pieces_meet l.text);
  value : l.pieces ++ flat_map pieces_in (words_of l.rest) ≡ pieces_of l.text;
}

abbrev pub decreases-loop-word : goal.decreases-loop-word
decreases-loop-word l = length l.rest
