use Rattle.std.proofs.Common.{refl}
use Rattle.xs_fields.specs.Conditions.{first_missed}
use Rattle.xs_fields.specs.Words.{words_of}
use Rattle.xs_fields.proofs.ScanLemmas.{next}
use Rattle.xs_conditions.specs.Occurrences.{occurrence_meets, word_occurrences}
use Rattle.xs_conditions.proofs.OccurrenceLemmas.{occurrence_fits, word_alone}
use Rattle.xs_conditions.proofs.occurrences.scan_occurrences.Goals as goal

pub loop-word-preserved : goal.loop-word-preserved
loop-word-preserved c =
    let os = c.args.names.now in
    let word = c.in-Some.word.now in
    next (word_occurrences os) (occurrence_meets os) c.args.left (words_of c.args.text.now) (occurrence_fits os)
    c.loop-word.missed (first_missed (occurrence_meets os word)) c.in_ok-missed.missed c.loop-word.occurrences (word_occurrences os word) c.take_word.new.occurrences
    word (words_of c.in-Some.more.now) (words_of c.loop-word.rest.now) c.in-Some.ensures.value refl refl
    c.in_ok-missed.ensures.missed c.in_ok-missed.ensures.value c.loop-word.invariant

pub take_word-requires : goal.take_word-requires
take_word-requires c = word_alone c.loop-word.rest.now c.in-Some.word.now (words_of c.in-Some.more.now) c.in-Some.ensures.value
