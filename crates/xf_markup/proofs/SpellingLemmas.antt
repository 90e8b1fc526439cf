-- The parts of a tag that is written: names, values and their quotes.
use Rattle.std.proofs.Common.{◌≡◌, ◌⊎◌, inl, inr, ℕ, zero, suc, ◌+◌, ◌<◌, ◌≤◌, ◌==◌, Bool, true, false, not, ◌&&◌, ◌||◌, List, [], ◌∷◌, ◌++◌, length, take, drop, get_or, Some, None, refl, ap, sym, ◌∙◌, arith, add-one, append_assoc, if◌then◌else◌, length-append}
use Rattle.std.specs.Prelude.{slice_index, nat_le}
use Rattle.std.specs.List.{list_all}
use Rattle.std.proofs.Math.Seq.{take-append_seam, drop-append_seam, drop-append-add, get_or-append_seam}
use Rattle.std.proofs.Math.ListN.{get_or-append}
use Rattle.std.proofs.lemmas.Bool.Decides.{nat_tests, Decides-eqb}
use Rattle.memchr.specs.Find.{first_of, places, is_byte2}
use Rattle.memchr.proofs.lemmas.ValueLemmas.{IsFirstByte-value}
use Rattle.xf_markup.specs.declared.tree.Attr.{Attr}
use Rattle.xf_markup.specs.Names.{run, is_name, is_name_start}
use Rattle.xf_markup.specs.Tag.{is_blank, past_blanks, spaced_at, named_at, equals_at, closed_at, until_quote, quoted_at, attr_at, ◌>>=◌}
use Rattle.xf_markup.specs.Written.{is_other, quote_of, written_attr, is_spelt_name, is_spelt_value, is_spelt_attr}
use Rattle.xf_markup.proofs.DistinctLemmas.{and_left, and_right}

pub run_front : (test : ℕ → Bool) (xs : List ℕ) (b : ℕ) (ys : List ℕ) → list_all test xs ≡ true → test b ≡ false → run test (xs ++ b ∷ ys) ≡ length xs
run_front test [] b ys all stop = rw stop refl
run_front test (x ∷ xs) b ys all stop =
    let here : test x ≡ true = and_left (test x) (list_all test xs) all in
    let more : run test (xs ++ b ∷ ys) ≡ length xs = run_front test xs b ys (and_right (test x) (list_all test xs) all) stop in
    rw here (ap (λ n. n + 1) more ∙ add-one (length xs))

-- bytes that a name may begin with
start_above : (b : ℕ) → is_name_start b ≡ true → 65 ≤ b
start_above b h = grind (arith, nat_tests)

above_not : (b k : ℕ) → 65 ≤ b → k < 65 → (b == k) ≡ false
above_not b k h lt = grind (arith, nat_tests)

not_above : (b k : ℕ) → 65 ≤ b → k < 65 → (k == b) ≡ false
not_above b k h lt = grind (arith, nat_tests)

pub start_not : (b k : ℕ) → is_name_start b ≡ true → k < 65 → (b == k) ≡ false
start_not b k h lt = above_not b k (start_above b h) lt

pub not_start : (b k : ℕ) → is_name_start b ≡ true → k < 65 → (k == b) ≡ false
not_start b k h lt = not_above b k (start_above b h) lt

start_is_name : (b : ℕ) → is_name_start b ≡ true → is_name b ≡ true
start_is_name b h = ap (λ t. t || (nat_le 48 b && nat_le b 58) || b == 45 || b == 46) h

start_not_blank : (b : ℕ) → is_name_start b ≡ true → is_blank b ≡ false
start_not_blank b h = rw (start_not b 32 h (omega arith), start_not b 9 h (omega arith), start_not b 10 h (omega arith), start_not b 13 h (omega arith)) refl

named_by : (bytes : List ℕ) (len : ℕ) → is_name_start (slice_index bytes 0) ≡ true → run is_name bytes ≡ len → named_at bytes ≡ Some (take len bytes, drop len bytes)
named_by bytes len s r = ap (λ ok. if not ok then None else Some (take (run is_name bytes) bytes, drop (run is_name bytes) bytes)) s ∙ ap (λ n. Some (take n bytes, drop n bytes)) r

pub named_written : (name : List ℕ) (b : ℕ) (ys : List ℕ) → is_spelt_name name ≡ true → is_name b ≡ false → named_at (name ++ b ∷ ys) ≡ Some (name, b ∷ ys)
named_written [] b ys h stop = cc
named_written (n ∷ ns) b ys h stop =
    let starts : is_name_start n ≡ true = and_left (is_name_start n) (list_all is_name ns) h in
    let all : list_all is_name (n ∷ ns) ≡ true = ap (λ t. t && list_all is_name ns) (start_is_name n starts) ∙ and_right (is_name_start n) (list_all is_name ns) h in
    named_by ((n ∷ ns) ++ b ∷ ys) (length (n ∷ ns)) starts (run_front is_name (n ∷ ns) b ys all stop)
    ∙ ap (λ t. Some (t, drop (length (n ∷ ns)) ((n ∷ ns) ++ b ∷ ys))) (take-append_seam (n ∷ ns) (b ∷ ys))
    ∙ ap (λ d. Some (n ∷ ns, d)) (drop-append_seam (n ∷ ns) (b ∷ ys))

past_none : (b : ℕ) (bs : List ℕ) → is_blank b ≡ false → past_blanks (b ∷ bs) ≡ b ∷ bs
past_none b bs h = ap (λ t. drop (if t then run is_blank bs + 1 else 0) (b ∷ bs)) h

run_none : (b : ℕ) (bs : List ℕ) → is_blank b ≡ false → run is_blank (b ∷ bs) ≡ 0
run_none b bs h = ap (λ t. if t then run is_blank bs + 1 else 0) h

pub past_one : (b : ℕ) (bs : List ℕ) → is_blank b ≡ false → past_blanks (32 ∷ b ∷ bs) ≡ b ∷ bs
past_one b bs h = ap (λ r. drop (r + 1) (32 ∷ b ∷ bs)) (run_none b bs h)

pub spaced_name : (name ys : List ℕ) → is_spelt_name name ≡ true → spaced_at (32 ∷ (name ++ ys)) ≡ Some (name ++ ys)
spaced_name [] ys h = cc
spaced_name (n ∷ ns) ys h =
    ap (λ r. if r + 1 == 0 then None else Some (drop (r + 1) (32 ∷ n ∷ (ns ++ ys)))) (run_none n (ns ++ ys) (start_not_blank n (and_left (is_name_start n) (list_all is_name ns) h)))

pub past_name : (n : ℕ) (bs : List ℕ) → is_name_start n ≡ true → past_blanks (32 ∷ n ∷ bs) ≡ n ∷ bs
past_name n bs h = past_one n bs (start_not_blank n h)

-- the first byte that passes a test
none_at : (test : ℕ → Bool) (xs : List ℕ) (k : ℕ) → list_all (λ x. not (test x)) xs ≡ true → k < length xs → test (get_or xs k 0) ≡ true → ⊥
none_at test [] k all lt is = absurd (omega arith)
none_at test (x ∷ xs) zero all lt is = let no : not (test x) ≡ true = and_left (not (test x)) (list_all (λ y. not (test y)) xs) all in let e = ap not is in cc
none_at test (x ∷ xs) (suc k) all lt is = none_at test xs k (and_right (not (test x)) (list_all (λ y. not (test y)) xs) all) (omega arith) is

pub first_place : (test : ℕ → Bool) (xs : List ℕ) (b : ℕ) (ys : List ℕ) → list_all (λ x. not (test x)) xs ≡ true → test b ≡ true → first_of (places test (xs ++ b ∷ ys)) ≡ Some (length xs)
first_place test xs b ys none hit = sym (IsFirstByte-value test (xs ++ b ∷ ys) (Some (length xs)) (
  record {
    low = omega arith;
    high = omega (arith, length-append xs (b ∷ ys));
    before = λ k low lt is. none_at test xs k none lt (ap test (sym (get_or-append xs (b ∷ ys) 0 k lt)) ∙ is);
  },
  ap test (get_or-append_seam xs b ys 0) ∙ hit,
))

equal_self : (q : ℕ) → (q == q) ≡ true
equal_self q = (Decides-eqb q q).1 refl

neither : (a b : Bool) → not a ≡ true → not b ≡ true → not (a || b) ≡ true
neither true b h k = h
neither false b h k = k

free_of_both : (q : ℕ) (value : List ℕ) → list_all (is_other q) value ≡ true → list_all (is_other 60) value ≡ true → list_all (λ x. not (is_byte2 q 60 x)) value ≡ true
free_of_both q [] h k = refl
free_of_both q (b ∷ bs) h k =
    let here : not (is_byte2 q 60 b) ≡ true = neither (b == q) (b == 60) (and_left (is_other q b) (list_all (is_other q) bs) h) (and_left (is_other 60 b) (list_all (is_other 60) bs) k) in
    ap (λ t. t && list_all (λ x. not (is_byte2 q 60 x)) bs) here ∙ free_of_both q bs (and_right (is_other q b) (list_all (is_other q) bs) h) (and_right (is_other 60 b) (list_all (is_other 60) bs) k)

until_written : (q : ℕ) (value rest : List ℕ) → list_all (is_other q) value ≡ true → list_all (is_other 60) value ≡ true → until_quote q (value ++ q ∷ rest) ≡ Some (value, rest)
until_written q value rest free plain =
    let bytes = value ++ q ∷ rest in
    ap (closed_at q bytes) (first_place (is_byte2 q 60) value q rest (free_of_both q value free plain) (ap (λ t. t || q == 60) (equal_self q)))
    ∙ ap (λ b. if b == q then Some (take (length value) bytes, drop (length value + 1) bytes) else None) (get_or-append_seam value q rest 0)
    ∙ ap (λ t. if t then Some (take (length value) bytes, drop (length value + 1) bytes) else None) (equal_self q)
    ∙ ap (λ t. Some (t, drop (length value + 1) bytes)) (take-append_seam value (q ∷ rest))
    ∙ ap (λ d. Some (value, d)) (drop-append-add value (q ∷ rest) 1)

-- the quote of a value
quote_is : (value : List ℕ) → (quote_of value ≡ 34) ⊎ (quote_of value ≡ 39)
quote_is value = quote_by (list_all (is_other 34) value)
  where
    quote_by : (b : Bool) → (◌≡◌ {A = ℕ} (if b then 34 else 39) 34) ⊎ (◌≡◌ {A = ℕ} (if b then 34 else 39) 39)
    quote_by true = inl refl
    quote_by false = inr refl

quote_free : (value : List ℕ) → is_spelt_value value ≡ true → list_all (is_other (quote_of value)) value ≡ true
quote_free value h = free_by (list_all (is_other 34) value) (list_all (is_other 39) value) refl refl (and_right (list_all (is_other 60) value) (list_all (is_other 34) value || list_all (is_other 39) value) h)
  where
    free_by : (a b : Bool) → list_all (is_other 34) value ≡ a → list_all (is_other 39) value ≡ b → (a || b) ≡ true → list_all (is_other (if a then 34 else 39)) value ≡ true
    free_by true b ha hb or = ha
    free_by false b ha hb or = hb ∙ or

quote_not_blank : (q : ℕ) → (q ≡ 34) ⊎ (q ≡ 39) → is_blank q ≡ false
quote_not_blank q (inl e) = ap is_blank e
quote_not_blank q (inr e) = ap is_blank e

quote_is_quote : (q : ℕ) → (q ≡ 34) ⊎ (q ≡ 39) → (q == 34 || q == 39) ≡ true
quote_is_quote q (inl e) = ap (λ x. x == 34 || x == 39) e
quote_is_quote q (inr e) = ap (λ x. x == 34 || x == 39) e

quoted_written : (q : ℕ) (value rest : List ℕ) → (q == 34 || q == 39) ≡ true → list_all (is_other q) value ≡ true → list_all (is_other 60) value ≡ true → quoted_at (q ∷ (value ++ q ∷ rest)) ≡ Some (value, rest)
quoted_written q value rest is free plain = ap (λ t. if t then until_quote q (value ++ q ∷ rest) else None) is ∙ until_written q value rest free plain

equals_written : (q : ℕ) (bs : List ℕ) → is_blank q ≡ false → equals_at (61 ∷ q ∷ bs) ≡ Some (q ∷ bs)
equals_written q bs h = ap Some (past_none q bs h)

-- an attribute, as it is written
pub attr_parts : (a : Attr) (rest : List ℕ) → written_attr a ++ rest ≡ 32 ∷ (a.name ++ 61 ∷ quote_of a.value ∷ (a.value ++ quote_of a.value ∷ rest))
attr_parts a rest = ap (λ x. 32 ∷ x) (append_assoc a.name (61 ∷ quote_of a.value ∷ (a.value ++ quote_of a.value ∷ [])) rest ∙ ap (λ x. a.name ++ 61 ∷ quote_of a.value ∷ x) (append_assoc a.value (quote_of a.value ∷ []) rest))

attr_by : (name value rest : List ℕ) (q : ℕ) → is_spelt_name name ≡ true → is_blank q ≡ false → (q == 34 || q == 39) ≡ true → list_all (is_other q) value ≡ true → list_all (is_other 60) value ≡ true
    → attr_at (32 ∷ (name ++ 61 ∷ q ∷ (value ++ q ∷ rest))) ≡ Some (name, value, rest)
unfolding attr_at
attr_by name value rest q named blank quote free plain =
    let after = q ∷ (value ++ q ∷ rest) in
    ap (λ o. o >>= (λ a. named_at a >>= (λ n. equals_at n.1 >>= (λ v. quoted_at v >>= (λ w. Some (n.0, w.0, w.1)))))) (spaced_name name (61 ∷ after) named)
    ∙ ap (λ o. o >>= (λ n. equals_at n.1 >>= (λ v. quoted_at v >>= (λ w. Some (n.0, w.0, w.1))))) (named_written name 61 after named refl)
    ∙ ap (λ o. o >>= (λ v. quoted_at v >>= (λ w. Some (name, w.0, w.1)))) (equals_written q (value ++ q ∷ rest) blank)
    ∙ ap (λ o. o >>= (λ w. Some (name, w.0, w.1))) (quoted_written q value rest quote free plain)

pub attr_written : (a : Attr) (rest : List ℕ) → is_spelt_attr a ≡ true → attr_at (written_attr a ++ rest) ≡ Some (a.name, a.value, rest)
attr_written a rest h =
    let spelt : is_spelt_value a.value ≡ true = and_right (is_spelt_name a.name) (is_spelt_value a.value) h in
    let quote = quote_is a.value in
    ap attr_at (attr_parts a rest)
    ∙ attr_by a.name a.value rest (quote_of a.value) (and_left (is_spelt_name a.name) (is_spelt_value a.value) h) (quote_not_blank (quote_of a.value) quote) (quote_is_quote (quote_of a.value) quote)
    (quote_free a.value spelt) (and_left (list_all (is_other 60) a.value) (list_all (is_other 34) a.value || list_all (is_other 39) a.value) spelt)
