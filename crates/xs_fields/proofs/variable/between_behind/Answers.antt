use Rattle.std.proofs.Common.{◌≡◌, ◌∷◌, List, ℕ, Option, ap, sym, ◌∙◌, Bor}
use Rattle.std.specs.Option.{option_map}
use Rattle.xs_fields.specs.Conditions.{judged}
use Rattle.xs_fields.specs.Variables.{bracket_in, is_small_bracket}
use Rattle.xs_fields.specs.Words.{is_byte, parts, parts_behind}
use Rattle.xs_fields.proofs.ListLemmas.{not_bracket}
use Rattle.xs_fields.proofs.variable.between_behind.Goals as goal

pub returns-in-Some-more : goal.returns-in-Some-more
returns-in-Some-more c =
    let low = c.args.low.now in
    let middle = c.cut.result.0.now in
    let high = c.cut-in-Some.result.0.now in
    let first : parts (is_byte 46) c.args.behind.now ≡ middle ∷ parts (is_byte 46) c.in-Some.high.now =
    c.cut.ensures.value ∙ ap (λ (o : Option (Bor (List ℕ))). middle ∷ parts_behind (is_byte 46) (option_map (λ x. x.now) o)) c.in-Some.is in
    let second : parts (is_byte 46) c.in-Some.high.now ≡ high ∷ parts (is_byte 46) c.in-Some-more.field-0.now =
    c.cut-in-Some.ensures.value ∙ ap (λ (o : Option (Bor (List ℕ))). high ∷ parts_behind (is_byte 46) (option_map (λ x. x.now) o)) c.in-Some-more.is in
    sym (ap (judged is_small_bracket) (ap (λ ps. bracket_in (low ∷ ps)) (first ∙ ap (λ ps. middle ∷ ps) second) ∙ not_bracket low middle high c.in-Some-more.field-0.now))
