use Rattle.std.proofs.Common.{◌≡◌, ◌∷◌, List, ℕ, Option, ap, sym, ◌∙◌, Bor}
use Rattle.std.specs.Option.{option_map}
use Rattle.xs_fields.specs.Words.{is_byte, parts, parts_behind}
use Rattle.xs_words.specs.Args.{copied_in}
use Rattle.xs_words.proofs.ArgLemmas.{not_copied}
use Rattle.xs_words.proofs.args.copied_of.Goals as goal

pub returns-in-Some-more-clause-value : goal.returns-in-Some-more-clause-value
returns-in-Some-more-clause-value c =
    let value = c.cut.result.0.now in
    let times = c.cut-in-Some.result.0.now in
    let first : parts (is_byte 120) c.args.word.now ≡ value ∷ parts (is_byte 120) c.in-Some.behind.now =
    c.cut.ensures.value ∙ ap (λ (o : Option (Bor (List ℕ))). value ∷ parts_behind (is_byte 120) (option_map (λ x. x.now) o)) c.in-Some.is in
    let second : parts (is_byte 120) c.in-Some.behind.now ≡ times ∷ parts (is_byte 120) c.in-Some-more.field-0.now =
    c.cut-in-Some.ensures.value ∙ ap (λ (o : Option (Bor (List ℕ))). times ∷ parts_behind (is_byte 120) (option_map (λ x. x.now) o)) c.in-Some-more.is in
    sym (ap copied_in (first ∙ ap (λ ps. value ∷ ps) second) ∙ not_copied (is_byte 120) value times c.in-Some-more.field-0.now)
