use Rattle.std.proofs.Common.{◌≡◌, ◌==◌, ◌∷◌, false, ap, sym, ◌∙◌, suc, drop, get_or}
use Rattle.std.specs.Str.Parse.{digits_value}
use Rattle.xs_fields.proofs.CompareLemmas.{digits_from, digit_there, not_zero_first}
use Rattle.xs_fields.proofs.compare.are_zeros.Goals as goal

pub returns-then-digit-ne48 : goal.returns-then-digit-ne48
returns-then-digit-ne48 c =
    let ds = c.args.digits.now in
    let i = c.loop-digit.digit-index in
    let at = digits_from 0 ds i c.loop-digit-test.true in
    let apart : (digits_value 10 (get_or ds i 0 ∷ drop (suc i) ds) == 0) ≡ false = not_zero_first (get_or ds i 0) (drop (suc i) ds) c.if-digit-ne48.true (digit_there i ds c.loop-digit-test.true c.requires) in
    sym (ap (λ n. n == 0) (sym c.loop-digit.invariant ∙ at) ∙ apart)
