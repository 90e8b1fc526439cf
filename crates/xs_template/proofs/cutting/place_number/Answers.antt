use Rattle.std.proofs.Common.{◌≡◌, ◌+◌, ◌-◌, ◌*◌, min, drop, get_or, ap, sym, ◌∙◌, arith, rules}
use Rattle.std.proofs.lemmas.List.{at_drop_more}
use Rattle.xs_template.specs.Template.{most_words, number_after}
use Rattle.xs_template.proofs.SpotLemmas.{capped}
use Rattle.xs_template.proofs.cutting.place_number.Goals as goal

pub loop-digit-preserved : goal.loop-digit-preserved
loop-digit-preserved c =
    let n = c.loop-digit.number in
    let i = c.loop-digit.digit-index in
    let ds = c.args.digits.now in
    let d = get_or ds i 0 in
    let is : c.min-number.result ≡ min (n * 10 + (d - 48)) most_words = search rules in
    let step : number_after n (drop i ds) ≡ number_after (n * 10 + (d - 48)) (drop (i + 1) ds) = at_drop_more (number_after n) ds i 0 c.loop-digit-test.true in
    record {
      most = omega (arith, is);
      rest = capped c.min-number.result (n * 10 + (d - 48)) (drop (i + 1) ds) (omega (arith, is)) ∙ ap (λ z. min z most_words) (sym step) ∙ c.loop-digit.invariant.rest;
    }
