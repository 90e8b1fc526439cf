use Rattle.std.proofs.Common.{ap, ◌∙◌, List, ℕ, Option, Bor}
use Rattle.std.specs.Option.{option_map}
use Rattle.xs_fields.specs.Conditions.{all_meet, earlier_of, first_missed}
use Rattle.xs_fields.specs.Variables.{bracket_meets}
use Rattle.xs_fields.specs.Words.{is_byte, parts_behind}
use Rattle.xs_fields.proofs.OrderLemmas.{missed_more}
use Rattle.xs_fields.proofs.variable.judge_brackets.Goals as goal

pub loop-rest-preserved : goal.loop-rest-preserved
loop-rest-preserved c =
    let behind = λ (o : Option (Bor (List ℕ))). parts_behind (is_byte 91) (option_map (λ x. x.now) o) in
    ap (λ m. earlier_of m (first_missed (all_meet bracket_meets (behind c.cut.result.1)))) c.earlier-missed.ensures.value
    ∙ missed_more bracket_meets c.loop-rest.missed c.judge_bracket.result (first_missed (all_meet bracket_meets (behind c.args.behind))) (behind c.loop-rest.rest) (behind c.cut.result.1) c.cut.result.0.now (ap behind c.in-Some.is ∙ c.cut.ensures.value) c.judge_bracket.ensures c.loop-rest.invariant
