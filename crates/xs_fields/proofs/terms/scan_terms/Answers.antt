use Rattle.std.proofs.Common.{refl}
use Rattle.xs_fields.specs.Terms.{term_meets, word_terms}
use Rattle.xs_fields.specs.Conditions.{first_missed}
use Rattle.xs_fields.specs.Words.{words_of}
use Rattle.xs_fields.proofs.ScanLemmas.{next}
use Rattle.xs_fields.proofs.WordLemmas.{term_fits}
use Rattle.xs_fields.proofs.terms.scan_terms.Goals as goal

pub loop-word-preserved : goal.loop-word-preserved
loop-word-preserved c =
    let os = c.args.names.now in
    let word = c.in-Some.word.now in
    next (word_terms os) (term_meets os) c.args.left (words_of c.args.text.now) (term_fits os)
    c.loop-word.missed (first_missed (term_meets os word)) c.in_ok-missed.missed c.loop-word.terms (word_terms os word) c.take_word.new.terms
    word (words_of c.in-Some.more.now) (words_of c.loop-word.rest.now) c.in-Some.ensures.value refl refl
    c.in_ok-missed.ensures.missed c.in_ok-missed.ensures.value c.loop-word.invariant
