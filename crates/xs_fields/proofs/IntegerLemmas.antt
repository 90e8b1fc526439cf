-- The number that is read at the front of an integer is the integer.
use Rattle.std.proofs.Common.{◌≡◌, ℕ, ◌<◌, ◌≤◌, ◌==◌, Bool, true, false, ◌&&◌, cond, nat_le, nat_lt, List, [], ◌∷◌, length, drop, get_or, refl, ap, sym, subst, ◌∙◌, arith, ℤ, pos, neg_ℤ, Some, None, Err, IsErrOf}
use Rattle.xf_text.specs.declared.number.NumberStop.{NumberStop}
use Rattle.xf_text.specs.declared.number.NumberStop.TheVariants.{NotNumber, Range}
use Rattle.std.specs.Char.{is_ascii_digit}
use Rattle.std.specs.List.{list_all, take_while}
use Rattle.std.specs.Str.Parse.{digits_value, signed_digits_value}
use Rattle.std.proofs.lemmas.List.Sums.{take_while-cons}
use borrow.Author.Tests.{ltb-true, leb-true, eqb-true, ne_eqb}
use Rattle.xf_text.specs.Number.{IsNumberAt, number_at}
use Rattle.xs_fields.specs.Integers.{integer_of, is_integer, is_small, number_place, small_value_of}

pub and_left : (a b : Bool) → (a && b) ≡ true → a ≡ true
and_left true b h = refl
and_left false b h = cc

pub and_right : (a b : Bool) → (a && b) ≡ true → b ≡ true
and_right true b h = h
and_right false b h = cc

take_all_digits : (bs : List ℕ) → list_all is_ascii_digit bs ≡ true → take_while is_ascii_digit bs ≡ bs
take_all_digits [] h = refl
take_all_digits (c ∷ cs) h =
    take_while-cons is_ascii_digit c cs
    ∙ ap (λ (v : Bool). cond v (c ∷ take_while is_ascii_digit cs) []) (and_left (is_ascii_digit c) (list_all is_ascii_digit cs) h)
    ∙ ap (λ cs. c ∷ cs) (take_all_digits cs (and_right (is_ascii_digit c) (list_all is_ascii_digit cs) h))

-- no minus before digits
digit_first : (bs : List ℕ) → list_all is_ascii_digit bs ≡ true → (get_or bs 0 0 == 45) ≡ false
digit_first [] h = refl
digit_first (c ∷ cs) h =
    let low : 48 ≤ c = leb-true _ _ (and_left (nat_le 48 c) (nat_le c 57) (and_left (is_ascii_digit c) (list_all is_ascii_digit cs) h)) in
    ne_eqb c 45 (λ e. omega arith)

abbrev IsRead : List ℕ → Type 0
IsRead word = IsNumberAt word (number_place word) × (number_at word (number_place word) ≡ signed_digits_value 10 word)

read_digits : (bs : List ℕ) → (nat_lt 0 (length bs) && list_all is_ascii_digit bs) ≡ true → (0 < length (take_while is_ascii_digit bs)) × (digits_value 10 (take_while is_ascii_digit bs) ≡ digits_value 10 bs)
read_digits bs h =
    let same : take_while is_ascii_digit bs ≡ bs = take_all_digits bs (and_right _ _ h) in
    (subst (λ (ds : List ℕ). 0 < length ds) (sym same) (ltb-true _ _ (and_left _ _ h)), ap (digits_value 10) same)

read_minus : (b : ℕ) (bs : List ℕ) → b ≡ 45 → is_integer (b ∷ bs) ≡ true → IsRead (b ∷ bs)
read_minus b bs e h =
    subst (λ (c : ℕ). is_integer (c ∷ bs) ≡ true → IsRead (c ∷ bs)) (sym e) (λ g. let r = read_digits bs g in (r.0, ap (λ n. neg_ℤ (pos n)) r.1)) h

read_plus : (b : ℕ) (bs : List ℕ) → b ≡ 43 → is_integer (b ∷ bs) ≡ true → IsRead (b ∷ bs)
read_plus b bs e h = subst (λ (c : ℕ). is_integer (c ∷ bs) ≡ true → IsRead (c ∷ bs)) (sym e) (λ g. let r = read_digits bs g in subst (λ (v : Bool). (0 < length (take_while is_ascii_digit (drop (cond v 2 1) (43 ∷ bs)))) × (cond v (neg_ℤ (pos (digits_value 10 (take_while is_ascii_digit (drop (cond v 2 1) (43 ∷ bs)))))) (pos (digits_value 10 (take_while is_ascii_digit (drop (cond v 2 1) (43 ∷ bs))))) ≡ pos (digits_value 10 bs))) (sym (digit_first bs (and_right _ _ g))) (r.0, ap (λ n. pos n) r.1)) h

read_plain : (b : ℕ) (bs : List ℕ) → (b == 45) ≡ false → (b == 43) ≡ false → is_integer (b ∷ bs) ≡ true → IsRead (b ∷ bs)
read_plain b bs e f h =
    let g = rw (e, f) at h in
    let r = read_digits (b ∷ bs) g in
    rw (f, e) (r.0, ap (λ n. pos n) r.1)

pub is_read : (word : List ℕ) → is_integer word ≡ true → IsRead word
is_read [] h = cc
is_read (b ∷ bs) h = minus (b == 45) refl
  where
    plus : (v : Bool) → (b == 45) ≡ false → (b == 43) ≡ v → IsRead (b ∷ bs)
    plus true e f = read_plus b bs (eqb-true _ _ f) h
    plus false e f = read_plain b bs e f h

    minus : (v : Bool) → (b == 45) ≡ v → IsRead (b ∷ bs)
    minus true e = read_minus b bs (eqb-true _ _ e) h
    minus false e = plus (b == 43) e refl

-- a number whose value fits is read
pub not_stopped : (k : NumberStop) (N F : Type 0) → (IsErrOf {T = ℤ × ℕ} (Err k) NotNumber → N → ⊥) → (IsErrOf {T = ℤ × ℕ} (Err k) Range → F → ⊥) → N → F → ⊥
not_stopped NotNumber N F g h n f = g refl n
not_stopped Range N F g h n f = h refl f

-- a small value that was read is that of the integer
pub integer_small : (word : List ℕ) (v : ℤ) → is_integer word ≡ true → Some v ≡ small_value_of word → integer_of word ≡ Some v
integer_small word v h e = ap (λ (t : Bool). cond t (Some (signed_digits_value 10 word)) None) h ∙ by (is_small (signed_digits_value 10 word)) e
  where
    by : (t : Bool) → Some v ≡ cond t (Some (signed_digits_value 10 word)) None → Some (signed_digits_value 10 word) ≡ Some v
    by true e = sym e
    by false e = cc
