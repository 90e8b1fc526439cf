use Rattle.std.proofs.Common.{ap, ◌∙◌}
use Rattle.std.specs.Result.{result_err}
use Rattle.xs_fields.specs.Conditions.{first_missed}
use Rattle.xs_fields.specs.Integers.{integer_of}
use Rattle.xs_notation.specs.Terms.{term_by, term_meets}
use Rattle.xs_notation.proofs.MissedLemmas.{settled-err}
use Rattle.xs_notation.proofs.term.scan_term.Goals as goal

pub returns-clause-missed : goal.returns-clause-missed
returns-clause-missed c =
    let os = c.args.names.now in
    let word = c.args.word.now in
    c.parted.ensures.missed ∙ ap result_err c.in_ok-term.ensures ∙ settled-err (first_missed (term_meets os word)) (term_by os word (integer_of word))
