use Rattle.std.proofs.Common.{rules, arith, ◌≡◌, ◌+◌, ◌-◌, ℕ, List, drop, take, ap, sym, subst}
use Rattle.std.specs.Str.Parse.{AllDigits}
use Rattle.xf_text.proofs.NumberLemmas.{all_digits_run}
use Rattle.xf_text.proofs.number.read_int.Goals as goal

pub value-requires : goal.value-requires
value-requires c = subst (λ (n : ℕ). AllDigits 10 (take n (drop c.if-minus.start c.args.text.now))) (omega (arith, c.digits_end-end.ensures.end)) (all_digits_run (drop c.if-minus.start c.args.text.now))
