use Rattle.std.proofs.Common.{◌≡◌, ◌∷◌, List, ℕ, Option, ap, sym, ◌∙◌, Bor}
use Rattle.std.specs.Option.{option_map}
use Rattle.xs_automata.specs.Transitions.{is_small_step, step_in}
use Rattle.xs_automata.proofs.ScanLemmas.{not_step}
use Rattle.xs_fields.specs.Conditions.{judged}
use Rattle.xs_fields.specs.Words.{is_byte, parts, parts_behind}
use Rattle.xs_automata.proofs.transitions.step_behind.Goals as goal

pub returns-in-Some-more : goal.returns-in-Some-more
returns-in-Some-more c =
    let from = c.args.from.now in
    let value = c.cut.result.0.now in
    let to = c.cut-in-Some.result.0.now in
    let first : parts (is_byte 44) c.args.behind.now ≡ value ∷ parts (is_byte 44) c.in-Some.behind.now =
    c.cut.ensures.value ∙ ap (λ (o : Option (Bor (List ℕ))). value ∷ parts_behind (is_byte 44) (option_map (λ x. x.now) o)) c.in-Some.is in
    let second : parts (is_byte 44) c.in-Some.behind.now ≡ to ∷ parts (is_byte 44) c.in-Some-more.field-0.now =
    c.cut-in-Some.ensures.value ∙ ap (λ (o : Option (Bor (List ℕ))). to ∷ parts_behind (is_byte 44) (option_map (λ x. x.now) o)) c.in-Some-more.is in
    sym (ap (judged is_small_step) (ap (λ ps. step_in (from ∷ ps)) (first ∙ ap (λ ps. value ∷ ps) second) ∙ not_step from value to c.in-Some-more.field-0.now))
