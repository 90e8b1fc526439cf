use Rattle.std.proofs.Common.{refl}
use Rattle.xs_fields.specs.Cells.{variable_meets, variables_of}
use Rattle.xs_fields.specs.Conditions.{first_missed}
use Rattle.xs_fields.specs.Words.{words_of}
use Rattle.xs_fields.proofs.ScanLemmas.{next}
use Rattle.xs_fields.proofs.WordLemmas.{variable_fits}
use Rattle.xs_fields.proofs.variables.scan_vars.Goals as goal

pub loop-word-preserved : goal.loop-word-preserved
loop-word-preserved c =
    let os = c.args.names.now in
    let word = c.in-Some.word.now in
    next (variables_of os) (variable_meets os) c.args.left (words_of c.args.text.now) (variable_fits os)
    c.loop-word.missed (first_missed (variable_meets os word)) c.in_ok-missed.missed c.loop-word.vars (variables_of os word) c.take_word.new.vars
    word (words_of c.in-Some.more.now) (words_of c.loop-word.rest.now) c.in-Some.ensures.value refl refl
    c.in_ok-missed.ensures.missed c.in_ok-missed.ensures.value c.loop-word.invariant
