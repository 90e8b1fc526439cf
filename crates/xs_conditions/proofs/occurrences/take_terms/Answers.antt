use Rattle.std.proofs.Common.{◌≡◌, ◌-◌, ℕ, Bool, Option, length, map, nat_le, ap, sym, ◌∙◌, rules}
use Rattle.std.proofs.lemmas.List.{length-map}
use Rattle.xs_fields.specs.Conditions.{first_missed}
use Rattle.xs_fields.specs.Scanning.{have_room, joined}
use Rattle.xs_fields.specs.Terms.{term_meets, word_terms}
use Rattle.xs_fields.specs.declared.condition.Condition.{Condition}
use Rattle.xs_model.specs.declared.term.Occurrence.TheVariants.{Term}
use Rattle.xs_conditions.specs.Scanning.{has_room, uncounted}
use Rattle.xs_conditions.proofs.OccurrenceLemmas.{joined_on, parted_word}
use Rattle.xs_conditions.proofs.occurrences.take_terms.Goals as goal

pub returns-clause-missed : goal.returns-clause-missed
returns-clause-missed c =
    let os = c.args.names.now in
    let word = c.args.word.now in
    let missed = c.args.missed in
    let rm = c.in_ok-reading.reading.missed in
    let old = c.args.occurrences.now in
    let terms = word_terms os word in
    let room : c.saturating_sub-room.result ≡ c.args.left - length old = search rules in
    let p = parted_word os word c.saturating_sub-room.result c.requires rm c.in_ok-reading.ensures.missed in
    c.joined-next.ensures
    ∙ ap (λ (a : Option Condition). joined missed a c.has_room.result) c.uncounted.ensures
    ∙ ap (λ (r : Bool). joined missed (uncounted rm) r) c.has_room.ensures
    ∙ joined_on missed (uncounted rm) (first_missed (term_meets os word)) (has_room rm) (have_room c.args.left old (length (map Term terms))) p.missed
    (λ none. p.room_is none ∙ ap (nat_le (length terms)) room ∙ ap (λ n. nat_le n (c.args.left - length old)) (sym (length-map terms Term)))
