-- The token that stands at the front of some bytes, by what it is and what comes behind it.
use Rattle.std.proofs.Common.{◌≡◌, ◌≢◌, ◌⊎◌, ⊎_elim, ℕ, suc, ◌+◌, ◌<◌, ◌≤◌, ◌==◌, Bool, true, false, ◌&&◌, ◌||◌, ℤ, pos, negsuc, List, [], ◌∷◌, ◌++◌, length, take, drop, refl, ap, sym, subst, ◌∙◌, arith, append_assoc, length-append, true≢false, codes, if◌then◌else◌}
use Rattle.std.specs.List.{AllByRecursion, list_all, prefix_len}
use Rattle.std.specs.Str.{bytes_eq}
use Rattle.std.proofs.lemmas.Bool.Decides.{nat_tests}
use Rattle.std.proofs.lemmas.Slice.Eq.{bytes_eq-Decides}
use Rattle.std.proofs.lemmas.List.{take_at, drop_at}
use Rattle.std.proofs.lemmas.Bool.{and_parts}
use Rattle.std.proofs.lemmas.Int.{ints}
use Rattle.std.proofs.lemmas.Fmt.{decimal_is_IsNumeral_wide}
use Rattle.std.proofs.lemmas.Str.Parse.{digit_from_value}
use Rattle.std.specs.Fmt.{decimal as write, signed_decimal}
use Rattle.std.specs.Str.Parse.{AllDigits}
use Rattle.fz_model.specs.Limits.{limit, IsSmall, exactly}
use Rattle.fz_model.specs.Sound.{IsName}
use Rattle.fz_tokens.specs.Bytes.{is_space, is_digit, is_hex, is_octal, is_letter, is_in_name, is_one_of, is_in_comment, is_keyword, keywords}
use Rattle.fz_tokens.specs.Cutting.{begins_with, behind, radix, decimal_tail, digits_cut, decimal, unsigned_by, unsigned, longer, number, word_cut, word, words as strings, mark as marks, cut, cut_at}
use Rattle.fz_tokens.specs.Tokens.{Token, tokens_of}
use Rattle.fz_tokens.specs.declared.cut.Sort.{Sort}
use Rattle.fz_tokens.specs.declared.cut.Sort.TheVariants as sorts
use Rattle.fz_tokens.specs.declared.cut.Cut.{Cut}
use Rattle.fz_tokens.proofs.Fronts.{solid_front, blank_front, front_as}
use Rattle.fz_grammar.specs.Levels.{words}
use Rattle.fz_grammar.specs.Parts.{key}
use Rattle.fz_grammar.specs.Expressions as expressions

-- whatever is behind the text, its tokens stand before those of what is behind it
pub record Cuts (text : List ℕ) (ts : List Token) (ok : List ℕ → Type 0) : Type 0 where
  pub cuts : (rest : List ℕ) → ok rest → words (tokens_of (text ++ rest)) ≡ ts ++ words (tokens_of rest)

pub join : {a b : List ℕ} {s t : List Token} {P Q : List ℕ → Type 0} → Cuts a s P → Cuts b t Q → ((rest : List ℕ) → Q rest → P (b ++ rest)) → Cuts (a ++ b) (s ++ t) Q
join {a} {b} {s} {t} f g h = record {
  cuts = λ rest q.
      ap (λ bytes. words (tokens_of bytes)) (append_assoc a b rest) ∙ f.cuts (b ++ rest) (h rest q) ∙ ap (λ z. s ++ z) (g.cuts rest q)
      ∙ sym (append_assoc s t (words (tokens_of rest)));
}

pub nothing : (P : List ℕ → Type 0) → Cuts [] [] P
nothing P = record { cuts = λ rest h. refl }

-- what may follow

abbrev pub Any : List ℕ → Type 0
Any rest = Unit {0}

abbrev pub NoSpace : List ℕ → Type 0
NoSpace rest = begins_with is_space rest ≡ false

abbrev pub NoColon : List ℕ → Type 0
NoColon rest = begins_with (λ c. c == 58) rest ≡ false

abbrev pub EndsWord : List ℕ → Type 0
EndsWord rest = begins_with is_in_name rest ≡ false

pub record EndsNumber (rest : List ℕ) : Type 0 where
  pub digit : begins_with is_digit rest ≡ false
  pub hex : begins_with (λ b. b == 120) rest ≡ false
  pub octal : begins_with (λ b. b == 111) rest ≡ false
  pub tail : decimal_tail rest ≡ 0

-- marks

pub mark_of : (b : ℕ) → (b ≡ 40) ⊎ ((b ≡ 41) ⊎ ((b ≡ 91) ⊎ ((b ≡ 93) ⊎ ((b ≡ 123) ⊎ ((b ≡ 125) ⊎ ((b ≡ 59) ⊎ ((b ≡ 44) ⊎ (b ≡ 61)))))))) → Cuts (b ∷ []) (key (b ∷ []) ∷ []) Any
unfolding cut_at
mark_of b h =
    let P : ℕ → Type 0 = λ c. Cuts (c ∷ []) (key (c ∷ []) ∷ []) Any in
    let at : (c : ℕ) → b ≡ c → P c → P b = λ c e p. subst P (sym e) p in
    ⊎_elim (λ e. at 40 e (record { cuts = λ rest o. refl }))
    (⊎_elim (λ e. at 41 e (record { cuts = λ rest o. refl }))
    (⊎_elim (λ e. at 91 e (record { cuts = λ rest o. refl }))
    (⊎_elim (λ e. at 93 e (record { cuts = λ rest o. refl }))
    (⊎_elim (λ e. at 123 e (record { cuts = λ rest o. refl }))
    (⊎_elim (λ e. at 125 e (record { cuts = λ rest o. refl }))
    (⊎_elim (λ e. at 59 e (record { cuts = λ rest o. refl }))
    (⊎_elim (λ e. at 44 e (record { cuts = λ rest o. refl }))
    (λ e. at 61 e (record { cuts = λ rest o. refl }))))))))) h

pub dots : Cuts (codes "..") (key (codes "..") ∷ []) Any
unfolding cut_at
dots = record { cuts = λ rest o. refl }

pub colons : Cuts (codes "::") (key (codes "::") ∷ []) Any
unfolding cut_at
colons = record { cuts = λ rest o. refl }

pub run_none : (p : ℕ → Bool) (rest : List ℕ) → begins_with p rest ≡ false → prefix_len p rest ≡ 0
run_none p [] h = refl
run_none p (c ∷ cs) h = rw h refl

-- the token at the front of a text, by its cut
solid : (text rest : List ℕ) (s : Sort) → 0 < length text → cut s (length text) ≡ cut_at (text ++ rest) → s ≢ sorts.Blank → s ≢ sorts.Junk → words (tokens_of (text ++ rest)) ≡ record { sort = s; bytes = text } ∷ words (tokens_of rest)
solid text rest s some is blank junk =
    let longer : 0 < length (text ++ rest) = omega (arith, length-append text rest) in
    let taken : text ≡ take (length text) (text ++ rest) = sym (take_at text rest (length text) refl) in
    let left : rest ≡ drop (length text) (text ++ rest) = sym (drop_at text rest (length text) refl) in
    ap words (front_as (text ++ rest) text rest s (length text) (solid_front (text ++ rest) (cut s (length text)) longer is blank junk some) taken left)

blank : (b : ℕ) (rest : List ℕ) → cut sorts.Blank 1 ≡ cut_at (b ∷ rest) → words (tokens_of (b ∷ rest)) ≡ words (tokens_of rest)
blank b rest is = ap words (blank_front (b ∷ rest) (cut sorts.Blank 1) (omega arith) is refl (omega arith))

colon_at : (rest : List ℕ) → NoColon rest → cut sorts.Fixed 1 ≡ cut_at (58 ∷ rest)
unfolding cut_at
colon_at rest h = ap (λ t. if t then cut sorts.Fixed 2 else cut sorts.Fixed 1) (sym h)

-- neither whitespace nor no token
abbrev is_solid : Sort → Bool
is_solid sorts.Blank = false
is_solid sorts.Junk = false
is_solid s = true

no_blank : (s : Sort) → is_solid s ≡ true → s ≢ sorts.Blank
no_blank s h e = true≢false (sym h ∙ ap is_solid e)

no_junk : (s : Sort) → is_solid s ≡ true → s ≢ sorts.Junk
no_junk s h e = true≢false (sym h ∙ ap is_solid e)

pub colon : Cuts (codes ":") (key (codes ":") ∷ []) NoColon
colon = record { cuts = λ rest h. solid (codes ":") rest sorts.Fixed (omega arith) (colon_at rest h) (no_blank sorts.Fixed refl) (no_junk sorts.Fixed refl) }

space_at : (rest : List ℕ) → NoSpace rest → cut sorts.Blank 1 ≡ cut_at (32 ∷ rest)
unfolding cut_at
space_at rest h = ap (λ n. cut sorts.Blank (1 + n)) (sym (run_none is_space rest h))

pub space : Cuts (codes " ") [] NoSpace
space = record { cuts = λ rest h. blank 32 rest (space_at rest h) }

line_end_at : (rest : List ℕ) → NoSpace rest → cut sorts.Blank 1 ≡ cut_at (10 ∷ rest)
unfolding cut_at
line_end_at rest h = ap (λ n. cut sorts.Blank (1 + n)) (sym (run_none is_space rest h))

pub line_end : Cuts (10 ∷ []) [] NoSpace
line_end = record { cuts = λ rest h. blank 10 rest (line_end_at rest h) }

-- runs

pub run : (p : ℕ → Bool) (xs rest : List ℕ) → list_all p xs ≡ true → begins_with p rest ≡ false → prefix_len p (xs ++ rest) ≡ length xs
run p [] rest h stop = run_none p rest stop
run p (x ∷ xs) rest h stop =
    let parts = and_parts (p x) (list_all p xs) h in
    ap (λ t. if t then 1 + prefix_len p (xs ++ rest) else 0) parts.0 ∙ ap (λ n. 1 + n) (run p xs rest parts.1 stop) ∙ omega arith

-- words

not_true : (t : Bool) → (t ≡ true → ⊥) → t ≡ false
not_true true h = absurd (h refl)
not_true false h = refl

keyword_not : (w : List ℕ) (ks : List (List ℕ)) → AllByRecursion (λ k. w ≢ k) ks → is_one_of w ks ≡ false
keyword_not w [] h = refl
keyword_not w (k ∷ ks) h =
    let first : bytes_eq w k ≡ false = not_true (bytes_eq w k) (λ e. h.0 ((bytes_eq-Decides w k).0 e)) in
    ap (λ t. t || is_one_of w ks) first ∙ keyword_not w ks h.1

-- a word of the grammar, or an identifier
abbrev pub sort_of : Bool → Sort
sort_of true = sorts.Fixed
sort_of false = sorts.Name

abbrev pub IsWord : List ℕ → Type 0
IsWord [] = ⊥
IsWord (c ∷ cs) = (is_letter c ≡ true) × (list_all is_in_name cs ≡ true)

letter_in_name : (c : ℕ) → is_letter c ≡ true → is_in_name c ≡ true
letter_in_name c h = ap (λ t. t || is_digit c) h

pub letter_no_space : (c : ℕ) → is_letter c ≡ true → is_space c ≡ false
letter_no_space c h = grind (arith, nat_tests, h)

letter_no_comment : (c : ℕ) → is_letter c ≡ true → (c == 37) ≡ false
letter_no_comment c h = grind (arith, nat_tests, h)

word_cut_is : (w rest : List ℕ) (n : ℕ) (t : Bool) → n ≡ length w → is_keyword w ≡ t → word_cut n (w ++ rest) ≡ cut (sort_of t) n
word_cut_is w rest n t is k =
    ap (λ (x : List ℕ). if is_keyword x then cut sorts.Fixed n else cut sorts.Name n) (take_at w rest n (sym is))
    ∙ ap (λ (u : Bool). if u then cut sorts.Fixed n else cut sorts.Name n) k ∙ chosen t
  where
    chosen : (u : Bool) → (if u then cut sorts.Fixed n else cut sorts.Name n) ≡ cut (sort_of u) n
    chosen true = refl
    chosen false = refl

word_at : (w rest : List ℕ) (t : Bool) → IsWord w → is_keyword w ≡ t → EndsWord rest → cut (sort_of t) (length w) ≡ cut_at (w ++ rest)
unfolding cut_at
word_at [] rest t h k stop = absurd h
word_at (c ∷ cs) rest t h k stop =
    let bytes : List ℕ = (c ∷ cs) ++ rest in
    let more : Cut = (if begins_with (λ b. b == 45 || is_digit b) bytes then number bytes else (if begins_with (λ b. b == 34) bytes then strings bytes else marks bytes)) in
    let size : prefix_len is_in_name bytes ≡ length (c ∷ cs) = run is_in_name (c ∷ cs) rest (ap (λ u. u && list_all is_in_name cs) (letter_in_name c h.0) ∙ h.1) stop in
    sym (ap (λ u. if u then cut sorts.Blank (prefix_len is_space bytes) else (if c == 37 then cut sorts.Blank (prefix_len is_in_comment bytes) else (if is_letter c then word bytes else more))) (letter_no_space c h.0)
    ∙ ap (λ u. if u then cut sorts.Blank (prefix_len is_in_comment bytes) else (if is_letter c then word bytes else more)) (letter_no_comment c h.0)
    ∙ ap (λ u. if u then word bytes else more) h.0
    ∙ ap (λ n. word_cut n bytes) size
    ∙ word_cut_is (c ∷ cs) rest (length (c ∷ cs)) t refl k)

sort_solid : (t : Bool) → is_solid (sort_of t) ≡ true
sort_solid true = refl
sort_solid false = refl

some_word : (w : List ℕ) → IsWord w → 0 < length w
some_word [] h = absurd h
some_word (c ∷ cs) h = omega arith

word_cuts : (w : List ℕ) (t : Bool) → IsWord w → is_keyword w ≡ t → Cuts w (record { sort = sort_of t; bytes = w } ∷ []) EndsWord
word_cuts w t h k = record { cuts = λ rest stop. solid w rest (sort_of t) (some_word w h) (word_at w rest t h k stop) (no_blank (sort_of t) (sort_solid t)) (no_junk (sort_of t) (sort_solid t)) }

pub keyword : (w : List ℕ) → IsWord w → is_keyword w ≡ true → Cuts w (key w ∷ []) EndsWord
keyword w h k = word_cuts w true h k

pub identifier : (w : List ℕ) → IsWord w → is_keyword w ≡ false → Cuts w (expressions.name w ∷ []) EndsWord
identifier w h k = word_cuts w false h k

-- a name of a model
pub named_word : (w : List ℕ) → IsName w → IsWord w
named_word [] h = absurd h.0
named_word (c ∷ cs) h = h.0

pub name : (w : List ℕ) → IsName w → Cuts w (expressions.name w ∷ []) EndsWord
name w h = identifier w (named_word w h) (keyword_not w keywords h.1)

-- integers

abbrev IsDigits : List ℕ → Type 0
IsDigits ds = list_all is_digit ds ≡ true

and_false : (t : Bool) → (t && false) ≡ false
and_false true = refl
and_false false = refl

-- behind the first byte of digits there is no mark of another base
second : (mark : ℕ) (ds rest : List ℕ) → ((c : ℕ) → is_digit c ≡ true → (c == mark) ≡ false) → IsDigits ds → begins_with (λ b. b == mark) rest ≡ false → begins_with (λ b. b == mark) (ds ++ rest) ≡ false
second mark [] rest off h stop = stop
second mark (d ∷ ds) rest off h stop = off d (and_parts (is_digit d) (list_all is_digit ds) h).0

radix_none : (mark : ℕ) (test : ℕ → Bool) (d : ℕ) (ds rest : List ℕ) → begins_with (λ b. b == mark) (ds ++ rest) ≡ false → radix mark test (d ∷ (ds ++ rest)) ≡ 0
radix_none mark test d ds rest h =
    let size : ℕ = behind 2 (prefix_len test (drop 2 (d ∷ (ds ++ rest)))) in
    ap (λ t. if (d == 48) && t then size else 0) h ∙ ap (λ t. if t then size else 0) (and_false (d == 48))

not_hex : (c : ℕ) → is_digit c ≡ true → (c == 120) ≡ false
not_hex c h = grind (arith, nat_tests, h)

not_octal : (c : ℕ) → is_digit c ≡ true → (c == 111) ≡ false
not_octal c h = grind (arith, nat_tests, h)

decimal_is : (d : ℕ) (ds rest : List ℕ) → IsDigits (d ∷ ds) → EndsNumber rest → decimal ((d ∷ ds) ++ rest) ≡ cut sorts.Number (length (d ∷ ds))
decimal_is d ds rest h stop =
    let bytes : List ℕ = (d ∷ ds) ++ rest in
    let size : prefix_len is_digit bytes ≡ length (d ∷ ds) = run is_digit (d ∷ ds) rest h stop.digit in
    let tail : decimal_tail (drop (length (d ∷ ds)) bytes) ≡ 0 = ap decimal_tail (drop_at (d ∷ ds) rest (length (d ∷ ds)) refl) ∙ stop.tail in
    let some : (length (d ∷ ds) == 0) ≡ false = grind (arith, nat_tests) in
    ap (λ n. digits_cut n (decimal_tail (drop n bytes))) size
    ∙ ap (λ n. digits_cut (length (d ∷ ds)) n) tail
    ∙ ap (λ t. if t then cut sorts.Junk 0 else cut sorts.Number (length (d ∷ ds))) some

unsigned_is : (ds rest : List ℕ) → 0 < length ds → IsDigits ds → EndsNumber rest → unsigned (ds ++ rest) ≡ cut sorts.Number (length ds)
unfolding unsigned
unsigned_is [] rest some h stop = absurd (omega arith)
unsigned_is (d ∷ ds) rest some h stop =
    let bytes : List ℕ = (d ∷ ds) ++ rest in
    let tail : IsDigits ds = (and_parts (is_digit d) (list_all is_digit ds) h).1 in
    ap (λ n. unsigned_by n (radix 111 is_octal bytes) bytes) (radix_none 120 is_hex d ds rest (second 120 ds rest not_hex tail stop.hex))
    ∙ ap (λ n. unsigned_by 0 n bytes) (radix_none 111 is_octal d ds rest (second 111 ds rest not_octal tail stop.octal))
    ∙ decimal_is d ds rest h stop

digit_no_space : (c : ℕ) → is_digit c ≡ true → is_space c ≡ false
digit_no_space c h = grind (arith, nat_tests, h)

digit_no_comment : (c : ℕ) → is_digit c ≡ true → (c == 37) ≡ false
digit_no_comment c h = grind (arith, nat_tests, h)

digit_no_letter : (c : ℕ) → is_digit c ≡ true → is_letter c ≡ false
digit_no_letter c h = grind (arith, nat_tests, h)

digit_no_minus : (c : ℕ) → is_digit c ≡ true → (c == 45) ≡ false
digit_no_minus c h = grind (arith, nat_tests, h)

or_true : (t : Bool) → (t || true) ≡ true
or_true true = refl
or_true false = refl

digits_at : (ds rest : List ℕ) → 0 < length ds → IsDigits ds → EndsNumber rest → cut sorts.Number (length ds) ≡ cut_at (ds ++ rest)
unfolding cut_at
digits_at [] rest some h stop = absurd (omega arith)
digits_at (d ∷ ds) rest some h stop =
    let bytes : List ℕ = (d ∷ ds) ++ rest in
    let here : is_digit d ≡ true = (and_parts (is_digit d) (list_all is_digit ds) h).0 in
    let last : Cut = (if begins_with (λ b. b == 34) bytes then strings bytes else marks bytes) in
    let comment : Cut = cut sorts.Blank (prefix_len is_in_comment bytes) in
    let numeric : (d == 45 || is_digit d) ≡ true = ap (λ t. d == 45 || t) here ∙ or_true (d == 45) in
    sym (ap (λ u. if u then cut sorts.Blank (prefix_len is_space bytes) else (if d == 37 then comment else (if is_letter d then word bytes else (if d == 45 || is_digit d then number bytes else last)))) (digit_no_space d here)
    ∙ ap (λ u. if u then comment else (if is_letter d then word bytes else (if d == 45 || is_digit d then number bytes else last))) (digit_no_comment d here)
    ∙ ap (λ u. if u then word bytes else (if d == 45 || is_digit d then number bytes else last)) (digit_no_letter d here)
    ∙ ap (λ u. if u then number bytes else last) numeric
    ∙ ap (λ u. if u then longer 1 (unsigned (drop 1 bytes)) else unsigned bytes) (digit_no_minus d here)
    ∙ unsigned_is (d ∷ ds) rest some h stop)

minus_at : (ds rest : List ℕ) → 0 < length ds → IsDigits ds → EndsNumber rest → cut sorts.Number (length (45 ∷ ds)) ≡ cut_at ((45 ∷ ds) ++ rest)
unfolding cut_at
minus_at ds rest some h stop =
    let none : (length ds == 0) ≡ false = grind (arith, nat_tests) in
    let one_more : length ds + 1 ≡ length (45 ∷ ds) = omega arith in
    sym (ap (λ c. longer 1 c) (unsigned_is ds rest some h stop) ∙ ap (λ t. if t then cut sorts.Junk 0 else cut sorts.Number (length ds + 1)) none ∙ ap (λ n. cut sorts.Number n) one_more)

digits_of_all : (ds : List ℕ) → AllDigits 10 ds → IsDigits ds
digits_of_all [] d = refl
digits_of_all (c ∷ cs) d =
    let r = digit_from_value c d.0 in
    let here : is_digit c ≡ true = grind (arith, nat_tests, r.0, r.1) in
    ap (λ t. t && list_all is_digit cs) here ∙ digits_of_all cs d.1

-- the digits of a number
pub count : (n : ℕ) → n ≤ limit → Cuts (write n) (expressions.number (write n) ∷ []) EndsNumber
count n small =
    let d = decimal_is_IsNumeral_wide n (omega (arith, small)) in
    record { cuts = λ rest stop. solid (write n) rest sorts.Number d.0.0 (digits_at (write n) rest d.0.0 (digits_of_all (write n) d.0.1) stop) (no_blank sorts.Number refl) (no_junk sorts.Number refl) }

minus : (n : ℕ) → n ≤ limit → Cuts (45 ∷ write n) (expressions.number (45 ∷ write n) ∷ []) EndsNumber
minus n small =
    let d = decimal_is_IsNumeral_wide n (omega (arith, small)) in
    record { cuts = λ rest stop. solid (45 ∷ write n) rest sorts.Number (omega arith) (minus_at (write n) rest d.0.0 (digits_of_all (write n) d.0.1) stop) (no_blank sorts.Number refl) (no_junk sorts.Number refl) }

-- an integer
pub integer : (z : ℤ) → IsSmall (exactly z) → Cuts (signed_decimal z) (expressions.number (signed_decimal z) ∷ []) EndsNumber
integer (pos n) small = count n (omega (arith, ints, small.to))
integer (negsuc n) small = minus (suc n) (omega (arith, ints, small.from))

-- an integer begins with a digit or a `-`
digits_first : (ds rest : List ℕ) → 0 < length ds → IsDigits ds → NoSpace (ds ++ rest)
digits_first [] rest some h = absurd (omega arith)
digits_first (d ∷ ds) rest some h = digit_no_space d (and_parts (is_digit d) (list_all is_digit ds) h).0

pub integer_first : (z : ℤ) (rest : List ℕ) → IsSmall (exactly z) → NoSpace (signed_decimal z ++ rest)
integer_first (pos n) rest small = let d = decimal_is_IsNumeral_wide n (omega (arith, ints, small.to)) in digits_first (write n) rest d.0.0 (digits_of_all (write n) d.0.1)
integer_first (negsuc n) rest small = refl
