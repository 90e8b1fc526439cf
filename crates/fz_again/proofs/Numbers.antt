-- The digits of an integer spell it.
use Rattle.std.proofs.Common.{◌≡◌, ℕ, suc, ◌+◌, ◌-◌, ◌*◌, ◌<◌, ◌≤◌, ◌==◌, ◌⊎◌, inl, inr, Bool, true, false, ◌&&◌, ℤ, pos, negsuc, neg_ℤ, List, [], ◌∷◌, map, drop, refl, ap, ◌∙◌, arith, if◌then◌else◌}
use Rattle.std.specs.Prelude.{nat_le}
use Rattle.std.specs.List.{AllByRecursion, list_all}
use Rattle.std.specs.Fmt.{decimal, signed_decimal}
use Rattle.std.specs.Str.Parse.{AllDigits, digits_value_after}
use Rattle.std.specs.Char.{digit_value}
use Rattle.std.proofs.lemmas.Bool.Decides.{nat_tests, Decides-int_eq}
use Rattle.std.proofs.lemmas.Int.{ints}
use Rattle.std.proofs.lemmas.Fmt.{decimal_is_IsNumeral_wide}
use Rattle.std.proofs.lemmas.Str.{digit_value_digit}
use Rattle.std.proofs.lemmas.Str.Parse.{digit_from_value}
use Rattle.fz_model.specs.Limits.{limit, IsSmall, exactly}
use Rattle.fz_file.specs.Layout.{numbers}
use Rattle.fz_tokens.specs.Cutting.{begins_with}
use Rattle.fz_values.specs.Integers.{digit, onward, marked, unsigned, is_minus, magnitude, is_small, signed, int_of}
use Rattle.fz_items.specs.Items.{has_length}

digit_is : (c : ℕ) → 48 ≤ c → c ≤ 57 → digit c ≡ c - 48
digit_is c low high = let e : nat_le c 57 ≡ true = grind (arith, nat_tests, high) in ap (λ t. if t then c - 48 else (if nat_le c 70 then c - 55 else c - 87)) e

onward_is : (n : ℕ) (ds : List ℕ) → AllDigits 10 ds → onward 10 n ds ≡ digits_value_after 10 n ds
onward_is n [] d = refl
onward_is n (c ∷ cs) d =
    let r = digit_from_value c d.0 in
    let e : n * 10 + digit c ≡ n * 10 + digit_value c = omega (arith, digit_is c r.0 r.1, digit_value_digit c r) in
    ap (λ m. onward 10 m cs) e ∙ onward_is (n * 10 + digit_value c) cs d.1

and_false : (t : Bool) → (t && false) ≡ false
and_false true = refl
and_false false = refl

-- digits do not begin with this byte
begins_not : (mark : ℕ) (ds : List ℕ) → 57 < mark ⊎ mark < 48 → AllDigits 10 ds → begins_with (λ b. b == mark) ds ≡ false
begins_not mark [] off d = refl
begins_not mark (c ∷ cs) off d = let r = digit_from_value c d.0 in grind (arith, nat_tests, r.0, r.1, off)

marked_not : (mark : ℕ) (ds : List ℕ) → 57 < mark ⊎ mark < 48 → AllDigits 10 ds → marked mark ds ≡ false
marked_not mark [] off d = refl
marked_not mark (c ∷ cs) off d = ap (λ t. (c == 48) && t) (begins_not mark cs off d.1) ∙ and_false (c == 48)

unsigned_is : (ds : List ℕ) → AllDigits 10 ds → unsigned ds ≡ onward 10 0 ds
unsigned_is ds d =
    ap (λ t. if t then onward 16 0 (drop 2 ds) else (if marked 111 ds then onward 8 0 (drop 2 ds) else onward 10 0 ds)) (marked_not 120 ds (inl (omega arith)) d)
    ∙ ap (λ t. if t then onward 8 0 (drop 2 ds) else onward 10 0 ds) (marked_not 111 ds (inl (omega arith)) d)

written : (n : ℕ) → n ≤ limit → unsigned (decimal n) ≡ n
written n small =
    let d = decimal_is_IsNumeral_wide n (omega (arith, small)) in
    unsigned_is (decimal n) d.0.1 ∙ (onward_is 0 (decimal n) d.0.1 ∙ d.1)

no_sign : (n : ℕ) → n ≤ limit → is_minus (decimal n) ≡ false
no_sign n small = begins_not 45 (decimal n) (inr (omega arith)) (decimal_is_IsNumeral_wide n (omega (arith, small))).0.1

size_of : (n : ℕ) → n ≤ limit → magnitude (decimal n) ≡ n
size_of n small = ap (λ t. if t then unsigned (drop 1 (decimal n)) else unsigned (decimal n)) (no_sign n small) ∙ written n small

size_below : (n : ℕ) → n ≤ limit → magnitude (45 ∷ decimal n) ≡ n
size_below n small = written n small

within : (m n : ℕ) → m ≡ n → n ≤ limit → nat_le m limit ≡ true
within m n e small = grind (arith, nat_tests, e, small)

-- the integer that is written is small
pub small_again : (z : ℤ) → IsSmall (exactly z) → is_small (signed_decimal z) ≡ true
small_again (pos n) h = let small : n ≤ limit = omega (arith, ints, h.to) in within (magnitude (decimal n)) n (size_of n small) small
small_again (negsuc n) h = let small : suc n ≤ limit = omega (arith, ints, h.from) in within (magnitude (45 ∷ decimal (suc n))) (suc n) (size_below (suc n) small) small

signed_again : (z : ℤ) → IsSmall (exactly z) → signed (signed_decimal z) ≡ z
signed_again (pos n) h =
    let small : n ≤ limit = omega (arith, ints, h.to) in
    ap (λ t. if t then neg_ℤ (pos (magnitude (decimal n))) else pos (magnitude (decimal n))) (no_sign n small) ∙ ap (λ k. pos k) (size_of n small)
signed_again (negsuc n) h = let small : suc n ≤ limit = omega (arith, ints, h.from) in ap (λ k. neg_ℤ (pos k)) (size_below (suc n) small)

-- the integer that is written is read again
pub int_again : (z : ℤ) → IsSmall (exactly z) → int_of (signed_decimal z) ≡ z
unfolding int_of
int_again z h = ap (λ t. if t then signed (signed_decimal z) else pos 0) (small_again z h) ∙ signed_again z h

pub ints_again : (zs : List ℤ) → AllByRecursion (λ k. IsSmall (exactly k)) zs → map int_of (numbers zs) ≡ zs
ints_again [] h = refl
ints_again (z ∷ zs) h = ap (λ k. k ∷ map int_of (numbers zs)) (int_again z h.0) ∙ ap (λ ks. z ∷ ks) (ints_again zs h.1)

pub all_small : (zs : List ℤ) → AllByRecursion (λ k. IsSmall (exactly k)) zs → list_all is_small (numbers zs) ≡ true
all_small [] h = refl
all_small (z ∷ zs) h = ap (λ t. t && list_all is_small (numbers zs)) (small_again z h.0) ∙ all_small zs h.1

-- the length that is written is the length
count_small : (n : ℕ) → n ≤ limit → IsSmall (exactly (pos n))
count_small n small = record { from = omega (arith, ints); to = omega (arith, ints, small) }

pub length_small : (n : ℕ) → n ≤ limit → is_small (decimal n) ≡ true
length_small n small = small_again (pos n) (count_small n small)

pub length_again : (n : ℕ) → n ≤ limit → has_length (decimal n) n ≡ true
length_again n small = (Decides-int_eq (int_of (decimal n)) (pos n)).1 (int_again (pos n) (count_small n small))
