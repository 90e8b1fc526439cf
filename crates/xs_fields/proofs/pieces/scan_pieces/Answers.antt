use Rattle.std.proofs.Common.{◌++◌, ap, ◌∙◌}
use Rattle.std.specs.List.{flat_map}
use Rattle.std.specs.Result.{result_err}
use Rattle.xs_fields.specs.Conditions.{all_meet, earlier_of, first_missed}
use Rattle.xs_fields.specs.Lists.{has_small_ends, piece_list, piece_meets, piece_of, pieces_in, pieces_meet, pieces_of}
use Rattle.xs_fields.specs.Words.{words_of}
use Rattle.xs_fields.proofs.ListLemmas.{members_more}
use Rattle.xs_fields.proofs.OrderLemmas.{judged_missed, missed_more}
use Rattle.xs_fields.proofs.pieces.scan_pieces.Goals as goal

pub loop-word-preserved : goal.loop-word-preserved
loop-word-preserved c =
    let text = c.args.text.now in
    let word = c.in-Some.word.now in
    let rest = words_of c.loop-word.rest.now in
    let more = words_of c.in-Some.more.now in
    record {
      missed =
          ap (λ m. earlier_of m (first_missed (all_meet piece_meets more))) c.in_ok-missed.ensures.missed
          ∙ missed_more piece_meets c.loop-word.missed (result_err c.read_piece.result) (first_missed (pieces_meet text)) rest more word c.in-Some.ensures.value
          (ap result_err c.read_piece.ensures ∙ judged_missed has_small_ends (piece_of word)) c.loop-word.invariant.missed;
      value =
          ap (λ ps. ps ++ flat_map pieces_in more) (c.in_ok-missed.ensures.value ∙ ap (λ r. c.loop-word.pieces ++ piece_list r) c.read_piece.ensures)
          ∙ members_more pieces_in rest more word c.loop-word.pieces (pieces_of text) c.in-Some.ensures.value c.loop-word.invariant.value;
    }
