-- Runs of digits, and the numbers that they are.
use Rattle.std.proofs.Common.{◌≡◌, ℕ, ◌+◌, ◌*◌, ◌-◌, ◌<◌, ◌≤◌, Bool, true, false, cond, List, [], ◌∷◌, length, take, drop, get_or, refl, ap, sym, subst, ◌∙◌, arith, rules}
use Rattle.std.specs.Char.{is_ascii_digit, digit_value}
use Rattle.std.specs.Int.{IsInRange}
use Rattle.std.specs.List.{prefix_len, take_while}
use Rattle.std.specs.Str.Parse.{AllDigits, digits_value}
use Rattle.std.proofs.lemmas.List.Sums.{take_while-cons}
use Rattle.std.proofs.lemmas.Str.{digit_value_digit}
use Rattle.std.proofs.lemmas.Int.Digits.{digits_value_more}
use Rattle.std.proofs.lemmas.Str.Parse.{digits_value-take-le}

digit_from_test : (c : ℕ) → is_ascii_digit c ≡ true → digit_value c < 10
digit_from_test c h = let r : IsInRange 48 57 c = search rules in omega (arith, digit_value_digit c r, r)

pub all_digits_run : (xs : List ℕ) → AllDigits 10 (take_while is_ascii_digit xs)
all_digits_run [] = tt
all_digits_run (c ∷ cs) = subst (AllDigits 10) (sym (take_while-cons is_ascii_digit c cs)) (by (is_ascii_digit c) refl (all_digits_run cs))
  where
    by : (b : Bool) → is_ascii_digit c ≡ b → AllDigits 10 (take_while is_ascii_digit cs) → AllDigits 10 (cond b (c ∷ take_while is_ascii_digit cs) [])
    by true e rest = (digit_from_test c e, rest)
    by false e rest = tt

pub value_more : (ds : List ℕ) (i v : ℕ) → i < length ds → v ≡ digits_value 10 (take i ds) → digits_value 10 (take (i + 1) ds) ≡ v * 10 + digit_value (get_or ds i 0)
value_more ds i v lt is = digits_value_more 10 ds i lt ∙ ap (λ n. n * 10 + digit_value (get_or ds i 0)) (sym is)

pub value_most : (ds : List ℕ) (i v : ℕ) → i < length ds → v ≡ digits_value 10 (take i ds) → v * 10 + digit_value (get_or ds i 0) ≤ digits_value 10 ds
value_most ds i v lt is = omega (arith, value_more ds i v lt is, digits_value-take-le 10 ds (i + 1) (omega arith))
