use Rattle.std.proofs.Common.{◌≡◌, ℤ, Option, Err, IfOk, sym, ap, subst, ◌∙◌}
use Rattle.xs_fields.specs.Conditions.{first_missed}
use Rattle.xs_fields.specs.Integers.{integer_of}
use Rattle.xs_notation.specs.Terms.{settled, term_by, term_meets_by}
use Rattle.xs_notation.proofs.MissedLemmas.{unspelt}
use Rattle.xs_notation.proofs.term.read_term.Goals as goal

pub returns-in-Err-Spelling : goal.returns-in-Err-Spelling
returns-in-Err-Spelling c =
    let os = c.args.names.now in
    let word = c.args.word.now in
    let none = unspelt (integer_of word) (sym c.read_integer.ensures ∙ c.in-Err-Spelling.is ∙ ap (λ k. Err k) c.in-Err-Spelling.field-0-is) in
    subst (λ (o : Option ℤ). IfOk c.variable.result (λ r. r ≡ settled (first_missed (term_meets_by os word o)) (term_by os word o))) (sym none) c.variable.ensures
