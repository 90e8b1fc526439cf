use Rattle.std.proofs.Common.{◌≡◌, ◌∷◌, ◌++◌, [], take, drop, ap, sym, ◌∙◌, rules}
use Rattle.xs_template.specs.declared.cutting.Spot.TheVariants.{Plain}
use Rattle.xs_template.specs.Template.{plain_len, spots_of, within_words}
use Rattle.xs_template.proofs.SpotLemmas.{plain_first, one_more}
use Rattle.xs_template.proofs.cutting.push_plain.Goals as goal

pub returns-clause-value : goal.returns-clause-value
returns-clause-value c =
    let text = c.args.text.now in
    let pushed : c.push.new.self ≡ c.args.spots.now ++ Plain (take (plain_len within_words text) text) ∷ [] = search rules in
    let rest : spots_of within_words c.from.result.now ≡ spots_of within_words (drop (plain_len within_words text) text) = ap (spots_of within_words) (c.from.ensures ∙ ap (λ n. drop n text) c.plain_len-len.ensures.value) in
    one_more c.args.spots.now c.push.new.self (spots_of within_words c.from.result.now) (spots_of within_words text) (Plain (take (plain_len within_words text) text)) pushed (plain_first within_words text c.requires.some c.requires.plain ∙ ap (λ ss. Plain (take (plain_len within_words text) text) ∷ ss) (sym rest))
