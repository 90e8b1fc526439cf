use Rattle.std.proofs.Common.{◌≡◌, ℤ, Option, None, Err, IfOk, sym, ap, subst, ◌∙◌}
use Rattle.xs_fields.specs.Conditions.{first_missed}
use Rattle.xs_fields.specs.Integers.{integer_of}
use Rattle.xs_conditions.specs.Single.{single_by, single_meets_by}
use Rattle.xs_conditions.proofs.MissedLemmas.{unspelt}
use Rattle.xs_conditions.proofs.single.scan_single.Goals as goal

pub returns-in-Err-Spelling-clause-missed : goal.returns-in-Err-Spelling-clause-missed
returns-in-Err-Spelling-clause-missed c =
    let os = c.args.names.now in
    let word = c.args.word.now in
    let none = unspelt (integer_of word) (sym c.read_integer.ensures ∙ c.in-Err-Spelling.is ∙ ap (λ k. Err k) c.in-Err-Spelling.field-0-is) in
    subst (λ (o : Option ℤ). IfOk c.scan_variable.result (λ r. r.missed ≡ first_missed (single_meets_by os word o))) (sym none) c.scan_variable.ensures.missed

pub returns-in-Err-Spelling-clause-value : goal.returns-in-Err-Spelling-clause-value
returns-in-Err-Spelling-clause-value c =
    let os = c.args.names.now in
    let word = c.args.word.now in
    let none = unspelt (integer_of word) (sym c.read_integer.ensures ∙ c.in-Err-Spelling.is ∙ ap (λ k. Err k) c.in-Err-Spelling.field-0-is) in
    subst (λ (o : Option ℤ). IfOk c.scan_variable.result (λ r. r.missed ≡ None → r.value ≡ single_by os word o)) (sym none) c.scan_variable.ensures.value
