use Rattle.std.proofs.Common.{ap, ◌∙◌}
use Rattle.std.specs.Result.{result_err}
use Rattle.xs_fields.specs.Conditions.{all_meet, earlier_of, first_missed}
use Rattle.xs_fields.specs.Lists.{has_small_ends, piece_meets, piece_of, pieces_meet}
use Rattle.xs_fields.specs.Words.{words_of}
use Rattle.xs_fields.proofs.OrderLemmas.{judged_missed, missed_more}
use Rattle.xs_fields.proofs.pieces.judge_pieces.Goals as goal

pub loop-word-preserved : goal.loop-word-preserved
loop-word-preserved c =
    ap (λ m. earlier_of m (first_missed (all_meet piece_meets (words_of c.in-Some.more.now)))) c.earlier-missed.ensures.value
    ∙ missed_more piece_meets c.loop-word.missed c.err.result (first_missed (pieces_meet c.args.text.now)) (words_of c.loop-word.rest.now) (words_of c.in-Some.more.now) c.in-Some.word.now c.in-Some.ensures.value
    (c.err.ensures.value ∙ ap result_err c.read_piece.ensures ∙ judged_missed has_small_ends (piece_of c.in-Some.word.now)) c.loop-word.invariant
