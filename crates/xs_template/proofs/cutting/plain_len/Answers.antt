use Rattle.std.proofs.Common.{◌≡◌, ◌+◌, drop, None, ap, sym, ◌∙◌, arith, length-drop, drop-drop}
use Rattle.xs_template.specs.Template.{front_gap, plain_len, within_words}
use Rattle.xs_template.proofs.SpotLemmas.{plain_on}
use Rattle.xs_template.proofs.cutting.plain_len.Goals as goal

pub loop-i-preserved : goal.loop-i-preserved
loop-i-preserved c =
    let i = c.loop-i.i in
    let bytes = c.args.bytes.now in
    let none : front_gap within_words (drop i bytes) ≡ None = ap (front_gap within_words) (sym c.from.ensures) ∙ sym c.front_gap.ensures.value ∙ c.in-None.is in
    let on = plain_on within_words (drop i bytes) (omega (arith, length-drop i bytes)) none in
    let more : plain_len within_words (drop 1 (drop i bytes)) ≡ plain_len within_words (drop (i + 1) bytes) = ap (plain_len within_words) (drop-drop 1 i bytes) in
    omega (arith, on, more, c.loop-i.invariant)
