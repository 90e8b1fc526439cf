-- How the numbers of digits compare.
use Rattle.std.proofs.Common.{◌≡◌, ◌≢◌, ℕ, suc, ◌+◌, ◌*◌, ◌<◌, ◌≤◌, ◌==◌, Bool, true, false, not, ◌&&◌, ◌||◌, nat_le, nat_lt, List, [], ◌∷◌, ◌++◌, length, take, drop, get_or, drop-cons, refl, ap, sym, subst, ◌∙◌, arith}
use Rattle.std.specs.Char.{is_ascii_digit, digit_value}
use Rattle.std.specs.Int.{IsInRange}
use Rattle.std.specs.List.{list_all}
use Rattle.std.specs.Str.Parse.{digits_value, digits_value_after}
use Rattle.std.proofs.lemmas.List.{take-append-drop}
use Rattle.std.proofs.lemmas.List.Folds.{list_all-append}
use Rattle.std.proofs.lemmas.Str.{digit_value_digit}
use borrow.Author.Tests.{leb-true, ltb-true, ltb-false, eqb-false, le-leb, lt-leb, ne_eqb, eqb-true}
use Rattle.xs_fields.proofs.IntegerLemmas.{and_left, and_right}

digit_range : (c : ℕ) → is_ascii_digit c ≡ true → IsInRange 48 57 c
digit_range c h = (leb-true _ _ (and_left (nat_le 48 c) (nat_le c 57) h), leb-true _ _ (and_right (nat_le 48 c) (nat_le c 57) h))

-- the digits behind a smaller number make a smaller number
pub after_less : (n m : ℕ) (ds es : List ℕ) → n < m → length ds ≡ length es → list_all is_ascii_digit ds ≡ true → digits_value_after 10 n ds < digits_value_after 10 m es
after_less n m [] [] h same digits = h
after_less n m [] (e ∷ es) h same digits = absurd (omega arith)
after_less n m (d ∷ ds) [] h same digits = absurd (omega arith)
after_less n m (d ∷ ds) (e ∷ es) h same digits =
    let r = digit_range d (and_left _ _ digits) in
    after_less (n * 10 + digit_value d) (m * 10 + digit_value e) ds es (omega (arith, digit_value_digit d r, r.0, r.1)) (omega arith) (and_right _ _ digits)

pub after_least : (n : ℕ) (ds : List ℕ) → n ≤ digits_value_after 10 n ds
after_least n [] = omega arith
after_least n (d ∷ ds) = omega (arith, after_least (n * 10 + digit_value d) ds)

pub after_append : (n : ℕ) (xs ys : List ℕ) → digits_value_after 10 n (xs ++ ys) ≡ digits_value_after 10 (digits_value_after 10 n xs) ys
after_append n [] ys = refl
after_append n (x ∷ xs) ys = after_append (n * 10 + digit_value x) xs ys

-- the first digit that differs decides
pub differs : (n x y : ℕ) (xs ys : List ℕ) → x ≢ y → is_ascii_digit x ≡ true → is_ascii_digit y ≡ true → length xs ≡ length ys → list_all is_ascii_digit xs ≡ true → list_all is_ascii_digit ys ≡ true → nat_lt x y ≡ nat_le (digits_value_after 10 n (x ∷ xs)) (digits_value_after 10 n (y ∷ ys))
differs n x y xs ys apart dx dy same all_x all_y = by (nat_lt x y) refl
  where
    by : (v : Bool) → nat_lt x y ≡ v → v ≡ nat_le (digits_value_after 10 n (x ∷ xs)) (digits_value_after 10 n (y ∷ ys))
    by true e =
        let rx = digit_range x dx in
        let ry = digit_range y dy in
        let less = after_less (n * 10 + digit_value x) (n * 10 + digit_value y) xs ys (omega (arith, ltb-true _ _ e, digit_value_digit x rx, digit_value_digit y ry, rx.0, ry.0)) same all_x in
        sym (le-leb _ _ (omega (arith, less)))
    by false e =
        let rx = digit_range x dx in
        let ry = digit_range y dy in
        let more : y < x = omega (arith, ltb-false _ _ e) in
        let less = after_less (n * 10 + digit_value y) (n * 10 + digit_value x) ys xs (omega (arith, more, digit_value_digit x rx, digit_value_digit y ry, rx.0, ry.0)) (sym same) all_y in
        sym (lt-leb _ _ less)

pub all_take : (n : ℕ) (ds : List ℕ) → list_all is_ascii_digit ds ≡ true → list_all is_ascii_digit (take n ds) ≡ true
all_take n ds h = and_left _ _ (sym (list_all-append is_ascii_digit (take n ds) (drop n ds)) ∙ ap (list_all is_ascii_digit) (take-append-drop n ds) ∙ h)

pub all_drop : (n : ℕ) (ds : List ℕ) → list_all is_ascii_digit ds ≡ true → list_all is_ascii_digit (drop n ds) ≡ true
all_drop n ds h = and_right _ _ (sym (list_all-append is_ascii_digit (take n ds) (drop n ds)) ∙ ap (list_all is_ascii_digit) (take-append-drop n ds) ∙ h)

in_parts : (n : ℕ) (ds : List ℕ) → digits_value 10 ds ≡ digits_value_after 10 (digits_value 10 (take n ds)) (drop n ds)
in_parts n ds = ap (digits_value 10) (sym (take-append-drop n ds)) ∙ after_append 0 (take n ds) (drop n ds)

-- against a number of more digits
pub longer_right : (a b : List ℕ) (n : ℕ) → length (drop n b) ≡ length a → list_all is_ascii_digit a ≡ true → (not (digits_value 10 (take n b) == 0) || nat_le (digits_value 10 a) (digits_value 10 (drop n b))) ≡ nat_le (digits_value 10 a) (digits_value 10 b)
longer_right a b n same digits = by (digits_value 10 (take n b) == 0) refl
  where
    by : (v : Bool) → (digits_value 10 (take n b) == 0) ≡ v → (not v || nat_le (digits_value 10 a) (digits_value 10 (drop n b))) ≡ nat_le (digits_value 10 a) (digits_value 10 b)
    by true e = ap (nat_le (digits_value 10 a)) (sym (in_parts n b ∙ ap (λ m. digits_value_after 10 m (drop n b)) (eqb-true _ _ e)))
    by false e =
        let some : 0 < digits_value 10 (take n b) = omega (arith, eqb-false _ _ e) in
        let less = after_less 0 (digits_value 10 (take n b)) a (drop n b) some (sym same) digits in
        sym (le-leb _ _ (omega (arith, less, in_parts n b)))

pub longer_left : (a b : List ℕ) (n : ℕ) → length (drop n a) ≡ length b → list_all is_ascii_digit b ≡ true → ((digits_value 10 (take n a) == 0) && nat_le (digits_value 10 (drop n a)) (digits_value 10 b)) ≡ nat_le (digits_value 10 a) (digits_value 10 b)
longer_left a b n same digits = by (digits_value 10 (take n a) == 0) refl
  where
    by : (v : Bool) → (digits_value 10 (take n a) == 0) ≡ v → (v && nat_le (digits_value 10 (drop n a)) (digits_value 10 b)) ≡ nat_le (digits_value 10 a) (digits_value 10 b)
    by true e = ap (λ m. nat_le m (digits_value 10 b)) (sym (in_parts n a ∙ ap (λ m. digits_value_after 10 m (drop n a)) (eqb-true _ _ e)))
    by false e =
        let some : 0 < digits_value 10 (take n a) = omega (arith, eqb-false _ _ e) in
        let less = after_less 0 (digits_value 10 (take n a)) b (drop n a) some (sym same) digits in
        sym (lt-leb _ _ (omega (arith, less, in_parts n a)))

-- a digit before others
pub zero_first : (c : ℕ) (cs : List ℕ) → c ≡ 48 → digits_value 10 (c ∷ cs) ≡ digits_value 10 cs
zero_first c cs e = ap (λ d. digits_value 10 (d ∷ cs)) e

pub not_zero_first : (c : ℕ) (cs : List ℕ) → c ≢ 48 → is_ascii_digit c ≡ true → (digits_value 10 (c ∷ cs) == 0) ≡ false
not_zero_first c cs e digit =
    let r = digit_range c digit in
    ne_eqb _ _ (λ z. omega (arith, z, e, after_least (0 * 10 + digit_value c) cs, digit_value_digit c r, r.0))

-- the same, as the code answers it: r is whether the front is zero, s whether the numbers of as many digits are ordered
pub right_some : (a b front : List ℕ) (n : ℕ) (r : Bool) → front ≡ take n b → length (drop n b) ≡ length a → list_all is_ascii_digit a ≡ true → r ≡ (digits_value 10 front == 0) → not r ≡ true → not r ≡ nat_le (digits_value 10 a) (digits_value 10 b)
right_some a b front n true at same digits is h = cc
right_some a b front n false at same digits is h =
    let zero : false ≡ (digits_value 10 (take n b) == 0) = is ∙ ap (λ ds. digits_value 10 ds == 0) at in
    subst (λ (z : Bool). (not z || nat_le (digits_value 10 a) (digits_value 10 (drop n b))) ≡ nat_le (digits_value 10 a) (digits_value 10 b)) (sym zero) (longer_right a b n same digits)

pub right_none : (a b front back : List ℕ) (n : ℕ) (r s : Bool) → front ≡ take n b → back ≡ drop n b → length (drop n b) ≡ length a → list_all is_ascii_digit a ≡ true → r ≡ (digits_value 10 front == 0) → not r ≡ false → s ≡ nat_le (digits_value 10 a) (digits_value 10 back) → s ≡ nat_le (digits_value 10 a) (digits_value 10 b)
right_none a b front back n false s at behind same digits is h t = cc
right_none a b front back n true s at behind same digits is h t =
    let zero : true ≡ (digits_value 10 (take n b) == 0) = is ∙ ap (λ ds. digits_value 10 ds == 0) at in
    t ∙ ap (λ ds. nat_le (digits_value 10 a) (digits_value 10 ds)) behind ∙ subst (λ (z : Bool). (not z || nat_le (digits_value 10 a) (digits_value 10 (drop n b))) ≡ nat_le (digits_value 10 a) (digits_value 10 b)) (sym zero) (longer_right a b n same digits)

pub left_none : (a b front back : List ℕ) (n : ℕ) (r s : Bool) → front ≡ take n a → back ≡ drop n a → length (drop n a) ≡ length b → list_all is_ascii_digit b ≡ true → r ≡ (digits_value 10 front == 0) → r ≡ true → s ≡ nat_le (digits_value 10 back) (digits_value 10 b) → s ≡ nat_le (digits_value 10 a) (digits_value 10 b)
left_none a b front back n false s at behind same digits is h t = cc
left_none a b front back n true s at behind same digits is h t =
    let zero : true ≡ (digits_value 10 (take n a) == 0) = is ∙ ap (λ ds. digits_value 10 ds == 0) at in
    t ∙ ap (λ ds. nat_le (digits_value 10 ds) (digits_value 10 b)) behind ∙ subst (λ (z : Bool). (z && nat_le (digits_value 10 (drop n a)) (digits_value 10 b)) ≡ nat_le (digits_value 10 a) (digits_value 10 b)) (sym zero) (longer_left a b n same digits)

pub left_some : (a b front : List ℕ) (n : ℕ) (r : Bool) → front ≡ take n a → length (drop n a) ≡ length b → list_all is_ascii_digit b ≡ true → r ≡ (digits_value 10 front == 0) → r ≡ false → r ≡ nat_le (digits_value 10 a) (digits_value 10 b)
left_some a b front n true at same digits is h = cc
left_some a b front n false at same digits is h =
    let zero : false ≡ (digits_value 10 (take n a) == 0) = is ∙ ap (λ ds. digits_value 10 ds == 0) at in
    subst (λ (z : Bool). (z && nat_le (digits_value 10 (drop n a)) (digits_value 10 b)) ≡ nat_le (digits_value 10 a) (digits_value 10 b)) (sym zero) (longer_left a b n same digits)

-- the digits from a place on
pub digits_from : (n : ℕ) (ds : List ℕ) (i : ℕ) → i < length ds → digits_value_after 10 n (drop i ds) ≡ digits_value_after 10 n (get_or ds i 0 ∷ drop (suc i) ds)
digits_from n ds i h = ap (digits_value_after 10 n) (drop-cons ds i 0 h)

pub digit_there : (i : ℕ) (ds : List ℕ) → i < length ds → list_all is_ascii_digit ds ≡ true → is_ascii_digit (get_or ds i 0) ≡ true
digit_there i ds h digits = and_left _ _ (ap (list_all is_ascii_digit) (sym (drop-cons ds i 0 h)) ∙ all_drop i ds digits)
