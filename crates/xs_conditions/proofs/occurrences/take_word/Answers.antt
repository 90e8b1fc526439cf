use Rattle.std.proofs.Common.{◌≡◌, true, List, Option, length, map, sym, ap, ◌∙◌}
use Rattle.std.specs.Prelude.{is_some}
use Rattle.std.specs.Result.{result_err}
use Rattle.xs_fields.specs.Conditions.{first_missed}
use Rattle.xs_fields.specs.Lists.{has_small_ends, piece_list}
use Rattle.xs_fields.specs.Scanning.{have_room, joined}
use Rattle.xs_fields.specs.declared.condition.Condition.{Condition}
use Rattle.xs_fields.proofs.OrderLemmas.{judged_missed}
use Rattle.xs_model.specs.declared.term.Occurrence.{Occurrence}
use Rattle.xs_model.specs.declared.term.Occurrence.TheVariants.{Span}
use Rattle.xs_conditions.specs.Occurrences.{occurrence_meets}
use Rattle.xs_conditions.specs.Ranges.{range_in}
use Rattle.xs_conditions.proofs.OccurrenceLemmas.{range_word_are, range_word_missed}
use Rattle.xs_conditions.proofs.occurrences.take_word.Goals as goal

pub returns-in_ok-next-clause-missed : goal.returns-in_ok-next-clause-missed
returns-in_ok-next-clause-missed c =
    let os = c.args.names.now in
    let word = c.args.word.now in
    let range = c.read_range-range.result in
    let is : true ≡ is_some (range_in word) = sym c.if-is_range.true ∙ c.is_range.ensures (range_in word) c.read_range-range.ensures in
    c.in_ok-next.ensures.missed
    ∙ ap (λ (m : Option Condition). joined c.args.missed m (have_room c.args.left c.args.occurrences.now (length (map Span (piece_list range)))))
    (ap result_err c.read_range-range.ensures ∙ judged_missed has_small_ends (range_in word) ∙ range_word_missed os word is)
    ∙ ap (λ (xs : List Occurrence). joined c.args.missed (first_missed (occurrence_meets os word)) (have_room c.args.left c.args.occurrences.now (length xs)))
    (ap (λ r. map Span (piece_list r)) c.read_range-range.ensures ∙ range_word_are os word is)
