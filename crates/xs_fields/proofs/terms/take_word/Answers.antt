use Rattle.std.proofs.Common.{◌≡◌, true, map, sym, ap, ◌∙◌}
use Rattle.std.specs.Result.{result_err}
use Rattle.xs_fields.specs.Conditions.{first_missed}
use Rattle.xs_fields.specs.Lists.{members_in, run_of}
use Rattle.xs_fields.specs.Terms.{is_run, term_meets, word_terms}
use Rattle.xs_model.specs.declared.term.Term.TheVariants.{Int}
use Rattle.xs_fields.proofs.WordLemmas.{joined_same, run_judged, term_run_are, term_run_missed}
use Rattle.xs_fields.proofs.terms.take_word.Goals as goal

pub returns-in_ok-next-clause-missed : goal.returns-in_ok-next-clause-missed
returns-in_ok-next-clause-missed c =
    let os = c.args.names.now in
    let word = c.args.word.now in
    let is : true ≡ is_run word = sym c.if-is_run.true ∙ c.is_run.ensures (run_of word) c.read_run-run.ensures in
    c.in_ok-next.ensures.missed
    ∙ joined_same c.args.missed (result_err c.read_run-run.result) (first_missed (term_meets os word)) c.args.left c.args.terms.now (map Int (members_in c.read_run-run.result)) (word_terms os word)
    (run_judged word c.read_run-run.result c.read_run-run.ensures ∙ term_run_missed os word is)
    (ap (λ r. map Int (members_in r)) c.read_run-run.ensures ∙ term_run_are os word is)
