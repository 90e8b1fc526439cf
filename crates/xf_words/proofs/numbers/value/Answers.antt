use Rattle.std.proofs.Common.{arith, ◌≡◌, sym, ap, ◌∙◌}
use Rattle.std.specs.Str.Parse.{digits_value}
use Rattle.std.proofs.lemmas.List.{take_all}
use Rattle.std.proofs.lemmas.Str.Parse.{digit_at}
use Rattle.xf_words.proofs.NumberLemmas.{all_digits, value_more, value_most}
use Rattle.xf_words.proofs.numbers.value.Goals as goal

pub push_digit-requires : goal.push_digit-requires
push_digit-requires c = digit_at c.args.digits.now c.loop-digit.digit-index (all_digits c.args.digits.now c.requires) (omega (arith, c.loop-digit-test.true))

pub loop-digit-preserved : goal.loop-digit-preserved
loop-digit-preserved c = record {
  is = c.in-Some.ensures.1 ∙ sym (value_more c.args.digits.now c.loop-digit.digit-index c.loop-digit.value c.loop-digit-test.true c.loop-digit.invariant.is);
  fits = omega (arith, c.in-Some.ensures.0, c.in-Some.ensures.1);
}

pub returns-in-None : goal.returns-in-None
returns-in-None c few = c.in-None.ensures (omega (arith, few, value_most c.args.digits.now c.loop-digit.digit-index c.loop-digit.value c.loop-digit-test.true c.loop-digit.invariant.is))

pub returns : goal.returns
returns c = let same : c.loop-digit.value ≡ digits_value 10 c.args.digits.now = c.loop-digit.invariant.is ∙ ap (digits_value 10) (take_all c.loop-digit.digit-index c.args.digits.now (omega (arith, c.loop-digit-test.false))) in (omega (arith, same, c.loop-digit.invariant.fits), same)
