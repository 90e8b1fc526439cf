-- Each name among the tokens of a text is an identifier and no keyword.
use Rattle.std.proofs.Common.{◌≡◌, ◌≢◌, ℕ, zero, suc, ◌+◌, ◌-◌, ◌==◌, Bool, true, false, not, ◌||◌, ◌&&◌, if◌then◌else◌, List, [], ◌∷◌, take, drop, refl, subst, arith}
use Rattle.std.specs.Prelude.{cond}
use Rattle.std.specs.List.{AllByRecursion, list_all, prefix_len}
use Rattle.std.specs.Str.{bytes_eq}
use Rattle.std.proofs.lemmas.Slice.Eq.{bytes_eq-Decides}
use Rattle.fz_model.specs.Sound.{IsIdentifier, IsName}
use Rattle.fz_tokens.specs.Bytes.{is_space, is_digit, is_octal, is_hex, is_letter, is_in_name, is_in_comment, is_one_of, keywords, is_keyword, is_mark}
use Rattle.fz_tokens.specs.Cutting.{cut, begins_with, radix, decimal_tail, digits_cut, decimal, unsigned, longer, number, words_from, words as quoted, word, double, mark, cut_at}
use Rattle.fz_tokens.specs.Tokens.{Token, Placed, emit_sort, tokens_past, tokens_of}
use Rattle.fz_tokens.specs.declared.cut.Sort.{Sort}
use Rattle.fz_tokens.specs.declared.cut.Sort.TheVariants.{Name, Number, Decimal, Words, Fixed, Blank, Junk}
use Rattle.fz_tokens.specs.declared.cut.Cut.{Cut}
use Rattle.fz_grammar.specs.Levels.{words}
use Rattle.fz_grammar.specs.Parts.{is_of, is_sort}

-- the bytes of a name are as names are
abbrev pub IsSpelt : Sort → List ℕ → Type 0
IsSpelt Name w = IsName w
IsSpelt _ w = Unit {0}

abbrev pub AreRight : List Token → Type 0
AreRight ts = AllByRecursion (λ (t : Token). IsSpelt t.sort t.bytes) ts

named_sort : (s : Sort) (w : List ℕ) → is_sort Name s ≡ true → IsSpelt s w → IsName w
named_sort Name w e h = h
named_sort Number w e h = cc
named_sort Decimal w e h = cc
named_sort Words w e h = cc
named_sort Fixed w e h = cc
named_sort Blank w e h = cc
named_sort Junk w e h = cc

pub named : (t : Token) → is_of Name t ≡ true → IsSpelt t.sort t.bytes → IsName t.bytes
named t e h = named_sort t.sort t.bytes e h

-- names

one_more : (n : ℕ) → suc n ≡ 1 + n
one_more n = omega arith

-- a run behind a first byte that passes
grown : (P : List ℕ → Type 0) (b : ℕ) (bs : List ℕ) (n : ℕ) → P (b ∷ take n bs) → P (take (1 + n) (b ∷ bs))
grown P b bs n h = subst (λ k. P (take k (b ∷ bs))) (one_more n) h

both_true : (a b : Bool) → a ≡ true → b ≡ true → (a && b) ≡ true
both_true true b e f = f
both_true false b e f = e

passes_if : (test : ℕ → Bool) (b : ℕ) (bs : List ℕ) (t : Bool) → test b ≡ t → list_all test (take (prefix_len test bs) bs) ≡ true → list_all test (take (cond t (1 + prefix_len test bs) 0) (b ∷ bs)) ≡ true
passes_if test b bs true e h = grown (λ xs. list_all test xs ≡ true) b bs (prefix_len test bs) (both_true (test b) (list_all test (take (prefix_len test bs) bs)) e h)
passes_if test b bs false e h = refl

passes : (test : ℕ → Bool) (bs : List ℕ) → list_all test (take (prefix_len test bs) bs) ≡ true
passes test [] = refl
passes test (b ∷ bs) = passes_if test b bs (test b) refl (passes test bs)

letter_first : (b : ℕ) (bs : List ℕ) (t u : Bool) → is_letter b ≡ t → (t || is_digit b) ≡ u → t ≡ true → IsIdentifier (take (cond u (1 + prefix_len is_in_name bs) 0) (b ∷ bs))
letter_first b bs true true e f h = grown IsIdentifier b bs (prefix_len is_in_name bs) (e, passes is_in_name bs)
letter_first b bs true false e f h = cc
letter_first b bs false u e f h = cc

identifier : (bs : List ℕ) → begins_with is_letter bs ≡ true → IsIdentifier (take (prefix_len is_in_name bs) bs)
identifier [] h = cc
identifier (b ∷ bs) h = letter_first b bs (is_letter b) (is_in_name b) refl refl h

right_false : (a b : Bool) → (a || b) ≡ false → b ≡ false
right_false true b e = cc
right_false false b e = e

left_false : (a b : Bool) → (a || b) ≡ false → a ≡ false
left_false true b e = e
left_false false b e = refl

not_both : (t : Bool) → t ≡ false → t ≡ true → ⊥
not_both true e h = cc
not_both false e h = cc

other_word : (w k : List ℕ) → bytes_eq w k ≡ false → w ≢ k
other_word w k e = λ same. not_both (bytes_eq w k) e ((bytes_eq-Decides w k).1 same)

no_keyword : (w : List ℕ) (ks : List (List ℕ)) → is_one_of w ks ≡ false → AllByRecursion (λ k. w ≢ k) ks
no_keyword w [] e = tt
no_keyword w (k ∷ ks) e = (other_word w k (left_false (bytes_eq w k) _ e), no_keyword w ks (right_false (bytes_eq w k) _ e))

-- what is cut

module _ (bytes : List ℕ) where
  abbrev IsGood : Cut → Type 0
  IsGood c = IsSpelt c.sort (take c.size bytes)

  good_if : (t : Bool) (c d : Cut) → (t ≡ true → IsGood c) → IsGood d → IsGood (if t then c else d)
  good_if true c d f g = f refl
  good_if false c d f g = g

  by_keyword : (t : Bool) (n : ℕ) → (t ≡ false → IsName (take n bytes)) → IsGood (if t then cut Fixed n else cut Name n)
  by_keyword true n f = tt
  by_keyword false n f = f refl

  word_good : begins_with is_letter bytes ≡ true → IsGood (word bytes)
  word_good h =
      let n = prefix_len is_in_name bytes in
      by_keyword (is_keyword (take n bytes)) n (λ e. (identifier bytes h, no_keyword (take n bytes) keywords e))

abbrev IsNone : Cut → Type 0
IsNone c = (w : List ℕ) → IsSpelt c.sort w

none_if : (t : Bool) (c d : Cut) → IsNone c → IsNone d → IsNone (if t then c else d)
none_if true c d f g = f
none_if false c d f g = g

longer_none : (k : ℕ) (c : Cut) → IsNone c → IsNone (longer k c)
longer_none k c h = none_if (c.size == 0) (cut Junk 0) (cut c.sort (c.size + k)) (λ w. tt) h

digits_none : (n tail : ℕ) → IsNone (digits_cut n tail)
digits_none n tail =
    none_if (n == 0) (cut Junk 0) (if tail == 0 then cut Number n else cut Decimal (n + tail)) (λ w. tt)
    (none_if (tail == 0) (cut Number n) (cut Decimal (n + tail)) (λ w. tt) (λ w. tt))

unsigned_none : (bytes : List ℕ) → IsNone (unsigned bytes)
unfolding unsigned
unsigned_none bytes =
    let hex = radix 120 is_hex bytes in
    let oct = radix 111 is_octal bytes in
    let n = prefix_len is_digit bytes in
    none_if (not (hex == 0)) (cut Number hex) (if not (oct == 0) then cut Number oct else decimal bytes) (λ w. tt)
    (none_if (not (oct == 0)) (cut Number oct) (decimal bytes) (λ w. tt) (digits_none n (decimal_tail (drop n bytes))))

number_none : (bytes : List ℕ) → IsNone (number bytes)
number_none bytes =
    none_if (begins_with (λ b. b == 45) bytes) (longer 1 (unsigned (drop 1 bytes))) (unsigned bytes) (longer_none 1 (unsigned (drop 1 bytes)) (unsigned_none (drop 1 bytes))) (unsigned_none bytes)

mark_none : (bytes : List ℕ) → IsNone (mark bytes)
mark_none bytes =
    none_if (double 46 bytes || double 58 bytes) (cut Fixed 2) (if begins_with (λ b. is_mark b || b == 58) bytes then cut Fixed 1 else cut Junk 0) (λ w. tt)
    (none_if (begins_with (λ b. is_mark b || b == 58) bytes) (cut Fixed 1) (cut Junk 0) (λ w. tt) (λ w. tt))

cut_good : (bytes : List ℕ) → IsGood bytes (cut_at bytes)
unfolding cut_at
cut_good bytes =
    let marks = mark bytes in
    let strings = if begins_with (λ b. b == 34) bytes then quoted bytes else marks in
    let numbers = if begins_with (λ b. b == 45 || is_digit b) bytes then number bytes else strings in
    let names = if begins_with is_letter bytes then word bytes else numbers in
    let comments = if begins_with (λ b. b == 37) bytes then cut Blank (prefix_len is_in_comment bytes) else names in
    good_if bytes (begins_with is_space bytes) (cut Blank (prefix_len is_space bytes)) comments (λ e. tt)
    (good_if bytes (begins_with (λ b. b == 37) bytes) (cut Blank (prefix_len is_in_comment bytes)) names (λ e. tt)
    (good_if bytes (begins_with is_letter bytes) (word bytes) numbers (word_good bytes)
    (good_if bytes (begins_with (λ b. b == 45 || is_digit b) bytes) (number bytes) strings (λ e. number_none bytes (take (number bytes).size bytes))
    (good_if bytes (begins_with (λ b. b == 34) bytes) (quoted bytes) marks (λ e. longer_none 1 (cut Words (words_from false (drop 1 bytes))) (λ w. tt) (take (quoted bytes).size bytes))
    (mark_none bytes (take marks.size bytes))))))

emit_right : (s : Sort) (n : ℕ) (bytes : List ℕ) (later : List Placed) → IsSpelt s (take n bytes) → AreRight (words later) → AreRight (words (emit_sort s n bytes later))
emit_right Name n bytes later h g = (h, g)
emit_right Number n bytes later h g = (tt, g)
emit_right Decimal n bytes later h g = (tt, g)
emit_right Words n bytes later h g = (tt, g)
emit_right Fixed n bytes later h g = (tt, g)
emit_right Blank n bytes later h g = g
emit_right Junk n bytes later h g = (tt, tt)

past_right : (n : ℕ) (bytes : List ℕ) → AreRight (words (tokens_past n bytes))
past_right n [] = tt
past_right (suc n) (b ∷ bs) = past_right n bs
past_right zero (b ∷ bs) =
    let c = cut_at (b ∷ bs) in
    emit_right c.sort c.size (b ∷ bs) (tokens_past (c.size - 1) bs) (cut_good (b ∷ bs)) (past_right (c.size - 1) bs)

pub tokens_right : (text : List ℕ) → AreRight (words (tokens_of text))
tokens_right text = past_right 0 text
