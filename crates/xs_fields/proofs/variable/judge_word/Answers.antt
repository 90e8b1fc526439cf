use Rattle.std.proofs.Common.{ap, sym, ◌∙◌, drop}
use Rattle.xs_fields.specs.Conditions.{all_meet, earlier_of, first_missed}
use Rattle.xs_fields.specs.Identifiers.{identifier_meets}
use Rattle.xs_fields.specs.Sizes.{brackets_of}
use Rattle.xs_fields.specs.Variables.{bracket_meets, first_part, name_in}
use Rattle.xs_fields.proofs.OrderLemmas.{first_missed-both}
use Rattle.xs_fields.proofs.variable.judge_word.Goals as goal

pub returns : goal.returns
returns c =
    let word = c.args.word.now in
    c.earlier.ensures.value
    ∙ ap (λ m. earlier_of m c.judge_brackets.result) (c.judge_identifier.ensures ∙ ap (λ ps. first_missed (identifier_meets (first_part ps))) (sym c.cut.ensures.value))
    ∙ ap (earlier_of (first_missed (identifier_meets (name_in word)))) (c.judge_brackets.ensures ∙ ap (λ ps. first_missed (all_meet bracket_meets (drop 1 ps))) (sym c.cut.ensures.value))
    ∙ first_missed-both (identifier_meets (name_in word)) (all_meet bracket_meets (brackets_of word))
