-- Integers as they are written, and their bytes.
use Rattle.std.proofs.Common.{◌≡◌, ℕ, suc, ◌<◌, ◌≤◌, ◌==◌, Bool, true, false, ◌&&◌, cond, nat_lt, nat_le, List, [], ◌∷◌, length, drop, refl, ap, sym, subst, ◌∙◌, arith, ℤ, pos, negsuc, neg_ℤ, Some, None}
use Rattle.std.specs.Char.{is_ascii_digit}
use Rattle.std.specs.Fmt.{decimal, signed_decimal}
use Rattle.std.specs.List.{list_all}
use Rattle.std.specs.Str.Parse.{AllDigits, IsNumeral, digits_value, signed_digits_value, without_leading_sign}
use Rattle.std.proofs.lemmas.Fmt.{decimal_is_IsNumeral_wide}
use Rattle.std.proofs.lemmas.Str.Parse.{digit_from_value}
use borrow.Author.Tests.{lt-ltb, le-leb, eqb-true}
use Rattle.xs_fields.specs.Integers.{integer_of, is_integer}
use Rattle.xs_model.specs.Sound.{IsSmall}

both : (a b : Bool) → a ≡ true → b ≡ true → (a && b) ≡ true
both a b g h = ap (λ (t : Bool). t && b) g ∙ h

digits-pass : (P : ℕ → Bool) → ((c : ℕ) → 48 ≤ c → c ≤ 57 → P c ≡ true) → (ds : List ℕ) → AllDigits 10 ds → list_all P ds ≡ true
digits-pass P h [] d = refl
digits-pass P h (c ∷ cs) d = let r = digit_from_value c d.0 in both (P c) (list_all P cs) (h c r.0 r.1) (digits-pass P h cs d.1)

ascii : (c : ℕ) → 48 ≤ c → c ≤ 57 → is_ascii_digit c ≡ true
ascii c l g = both (nat_le 48 c) (nat_le c 57) (le-leb 48 c l) (le-leb c 57 g)

-- a text that spells an integer
abbrev pub Spells : List ℕ → ℤ → Type 0
Spells t z = IsNumeral 10 (without_leading_sign t) × (signed_digits_value 10 t ≡ z)

pub integer-is : (t : List ℕ) (z : ℤ) → Spells t z → integer_of t ≡ Some z
integer-is t z h =
    let some : is_integer t ≡ true = both (nat_lt 0 (length (without_leading_sign t))) (list_all is_ascii_digit (without_leading_sign t)) (lt-ltb 0 (length (without_leading_sign t)) h.0.0) (digits-pass is_ascii_digit ascii (without_leading_sign t) h.0.1) in
    ap (λ (v : Bool). cond v (Some (signed_digits_value 10 t)) None) some ∙ ap (λ x. Some x) h.1

-- digits have no sign
digits-plain : (b : ℕ) (bs : List ℕ) → IsNumeral 10 (b ∷ bs) → Spells (b ∷ bs) (pos (digits_value 10 (b ∷ bs)))
digits-plain b bs h = minus (b == 45) refl
  where
    P : Bool → Type 0
    P t = IsNumeral 10 (cond t (drop 1 (b ∷ bs)) (drop (cond (b == 43) 1 0) (b ∷ bs))) × (cond t (neg_ℤ (pos (digits_value 10 (cond t (drop 1 (b ∷ bs)) (drop (cond (b == 43) 1 0) (b ∷ bs)))))) (pos (digits_value 10 (cond t (drop 1 (b ∷ bs)) (drop (cond (b == 43) 1 0) (b ∷ bs))))) ≡ pos (digits_value 10 (b ∷ bs)))

    low : (48 ≤ b) × (b ≤ 57)
    low = let d = digit_from_value b h.1.0 in (d.0, d.1)

    plus : (t : Bool) → (b == 43) ≡ t → IsNumeral 10 (drop (cond t 1 0) (b ∷ bs)) × (pos (digits_value 10 (drop (cond t 1 0) (b ∷ bs))) ≡ pos (digits_value 10 (b ∷ bs)))
    plus true e = absurd (omega (arith, eqb-true b 43 e, low.0))
    plus false e = (h, refl)

    minus : (t : Bool) → (b == 45) ≡ t → Spells (b ∷ bs) (pos (digits_value 10 (b ∷ bs)))
    minus true e = absurd (omega (arith, eqb-true b 45 e, low.0))
    minus false e = subst P (sym e) (plus (b == 43) refl)

numeral-plain : (ds : List ℕ) → IsNumeral 10 ds → Spells ds (pos (digits_value 10 ds))
numeral-plain [] h = absurd (omega (arith, h.0))
numeral-plain (b ∷ bs) h = digits-plain b bs h

-- a small integer, as it is written
pub decimal-spells : (z : ℤ) → IsSmall z → Spells (signed_decimal z) z
decimal-spells (pos n) h =
    let d = decimal_is_IsNumeral_wide n (omega (arith, h)) in
    subst (λ m. Spells (decimal n) (pos m)) d.1 (numeral-plain (decimal n) d.0)
decimal-spells (negsuc n) h =
    let d = decimal_is_IsNumeral_wide (suc n) (omega (arith, h)) in
    (d.0, ap (λ m. neg_ℤ (pos m)) d.1)

-- the bytes of an integer are digits and signs
pub integer-bytes : (P : ℕ → Bool) → P 43 ≡ true → P 45 ≡ true → ((c : ℕ) → 48 ≤ c → c ≤ 57 → P c ≡ true) → (t : List ℕ) → IsNumeral 10 (without_leading_sign t) → list_all P t ≡ true
integer-bytes P p m ds [] h = absurd (omega (arith, h.0))
integer-bytes P p m ds (b ∷ bs) h = minus (b == 45) refl h
  where
    plus : (s : Bool) → (b == 43) ≡ s → IsNumeral 10 (drop (cond s 1 0) (b ∷ bs)) → list_all P (b ∷ bs) ≡ true
    plus true e g = both (P b) (list_all P bs) (ap P (eqb-true b 43 e) ∙ p) (digits-pass P ds bs g.1)
    plus false e g = digits-pass P ds (b ∷ bs) g.1

    minus : (s : Bool) → (b == 45) ≡ s → IsNumeral 10 (cond s (drop 1 (b ∷ bs)) (drop (cond (b == 43) 1 0) (b ∷ bs))) → list_all P (b ∷ bs) ≡ true
    minus true e g = both (P b) (list_all P bs) (ap P (eqb-true b 45 e) ∙ m) (digits-pass P ds bs g.1)
    minus false e g = plus (b == 43) refl g

-- and there is one
pub integer-some : (t : List ℕ) → IsNumeral 10 (without_leading_sign t) → 0 < length t
integer-some [] h = absurd (omega (arith, h.0))
integer-some (b ∷ bs) h = omega arith
