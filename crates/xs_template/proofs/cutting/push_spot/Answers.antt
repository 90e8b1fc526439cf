use Rattle.std.proofs.Common.{◌≡◌, ◌∷◌, Some, ap, sym, ◌∙◌, rules}
use Rattle.xs_template.specs.declared.cutting.Spot.TheVariants.{Open}
use Rattle.xs_template.specs.Template.{front_gap, spots_of, within_words}
use Rattle.xs_template.proofs.SpotLemmas.{gap_first, one_more}
use Rattle.xs_template.proofs.cutting.push_spot.Goals as goal

pub returns-in_ok-push-in-Some-clause-value : goal.returns-in_ok-push-in-Some-clause-value
returns-in_ok-push-in-Some-clause-value c =
    let text = c.args.text.now in
    let is : front_gap within_words text ≡ Some (c.in-Some.gap, c.in-Some.size) = search rules in
    let front = gap_first within_words text (c.in-Some.gap, c.in-Some.size) is (search rules) in
    one_more c.args.spots.now c.push.new.self (spots_of within_words c.from.result.now) (spots_of within_words text) (Open c.in-Some.gap) (search rules) (front ∙ ap (λ ys. Open c.in-Some.gap ∷ spots_of within_words ys) (sym c.from.ensures))
