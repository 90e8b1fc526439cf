-- The names of a lowered model are names, and differ.
use Rattle.std.proofs.Common.{◌≡◌, ◌≢◌, ℕ, zero, suc, ◌+◌, ◌<◌, ◌≤◌, ◌==◌, Bool, true, not, ◌&&◌, List, [], ◌∷◌, ◌++◌, length, map, get_or, drop, refl, ap, sym, ◌∙◌, arith, codes, true≢false, ⊎_elim, if◌then◌else◌, ◌^◌}
use Rattle.std.specs.Prelude.{AllPairs, slice_index_or}
use Rattle.std.specs.List.{All, AllByRecursion, list_all, flat_map, range_with_len}
use Rattle.std.specs.Fmt.{decimal}
use Rattle.std.specs.Str.Parse.{AllDigits, digits_value}
use Rattle.std.proofs.lemmas.Bool.Decides.{nat_tests}
use Rattle.std.proofs.lemmas.Fmt.{decimal_is_IsNumeral_wide}
use Rattle.std.proofs.lemmas.Grind.{flat_map-append}
use Rattle.std.proofs.lemmas.List.Elements.{All-nil}
use Rattle.std.proofs.lemmas.List.Folds.{list_all-append}
use Rattle.std.proofs.lemmas.List.Kept.{AllPairs-cons}
use Rattle.std.proofs.lemmas.Str.Parse.{digit_from_value}
use Rattle.xs_model.specs.Identifier.{is_digit, is_word}
use Rattle.fz_model.specs.Sound as flat
use Rattle.fz_model.specs.Sound.{IsName, keywords}
use Rattle.lo_names.specs.Spelling.{spelled_byte, spelled, IsIndex, IsDirectWord}
use Rattle.lo_names.specs.LowNames.{auxiliary_name, low_names, AreLowNames}
use Rattle.lo_names.proofs.Reading.{either, both, apart, same_byte, all_word, brackets, marks, marked, injective}

-- identifiers

all_pass : (p q : ℕ → Bool) → ((c : ℕ) → p c ≡ true → q c ≡ true) → (cs : List ℕ) → list_all p cs ≡ true → list_all q cs ≡ true
all_pass p q f [] h = refl
all_pass p q f (c ∷ cs) h = let r = both (p c) (list_all p cs) h in ap (λ t. t && list_all q cs) (f c r.0) ∙ all_pass p q f cs r.1

joined : (p : ℕ → Bool) (xs ys : List ℕ) → list_all p xs ≡ true → list_all p ys ≡ true → list_all p (xs ++ ys) ≡ true
joined p xs ys h k = list_all-append p xs ys ∙ ap (λ t. t && list_all p ys) h ∙ k

word_passes : (c : ℕ) → is_word c ≡ true → flat.is_word c ≡ true
word_passes c h = grind (arith, nat_tests, h)

digit_passes : (c : ℕ) → is_digit c ≡ true → flat.is_word c ≡ true
digit_passes c h = grind (arith, nat_tests, h)

byte_passes : (c : ℕ) → is_word c ≡ true → list_all flat.is_word (spelled_byte c) ≡ true
byte_passes c h =
    ⊎_elim
    (λ e. ap (λ t. list_all flat.is_word (if t then codes "__" else (if c == 91 then codes "_" else (if c == 93 then [] else c ∷ [])))) e)
    (λ e. ap (list_all flat.is_word) (same_byte c e (apart is_word c 91 h refl) (apart is_word c 93 h refl)) ∙ ap (λ t. t && true) (word_passes c h))
    (either (c == 95))

name_passes : (cs : List ℕ) → list_all is_word cs ≡ true → list_all flat.is_word (flat_map spelled_byte cs) ≡ true
name_passes [] h = refl
name_passes (c ∷ cs) h = let r = both (is_word c) (list_all is_word cs) h in joined flat.is_word (spelled_byte c) (flat_map spelled_byte cs) (byte_passes c r.0) (name_passes cs r.1)

marks_pass : (indices : List (List ℕ)) → AllByRecursion IsIndex indices → list_all flat.is_word (marks indices) ≡ true
marks_pass [] h = refl
marks_pass (ds ∷ indices) h = joined flat.is_word ds (marks indices) (all_pass is_digit flat.is_word digit_passes ds h.0.1) (marks_pass indices h.1)

word_is : (word : List ℕ) → IsDirectWord word → list_all flat.is_word (flat_map spelled_byte word) ≡ true
word_is word d =
    ap (λ w. list_all flat.is_word (flat_map spelled_byte w)) d.whole
    ∙ ap (list_all flat.is_word) (flat_map-append spelled_byte d.name (brackets d.indices) ∙ ap (λ xs. flat_map spelled_byte d.name ++ xs) (marked d.indices d.each))
    ∙ joined flat.is_word (flat_map spelled_byte d.name) (marks d.indices) (name_passes d.name (all_word d.name d.identifier)) (marks_pass d.indices d.each)

-- a word of the grammar has no `_` behind its first letter

abbrev marked_second : List ℕ → Bool
marked_second w = get_or w 1 0 == 95

no_keyword : (w : List ℕ) (ks : List (List ℕ)) → marked_second w ≡ true → list_all (λ k. not (marked_second k)) ks ≡ true → AllByRecursion (λ k. w ≢ k) ks
no_keyword w [] h n = tt
no_keyword w (k ∷ ks) h n =
    let r = both (not (marked_second k)) (list_all (λ j. not (marked_second j)) ks) n in
    (λ e. true≢false (sym r.0 ∙ ap not (sym (ap marked_second e) ∙ h)), no_keyword w ks h r.1)

spelled_name : (word : List ℕ) → IsDirectWord word → IsName (spelled word)
spelled_name word d = ((refl, word_is word d), no_keyword (spelled word) keywords refl refl)

digits_pass : (ds : List ℕ) → AllDigits 10 ds → list_all flat.is_word ds ≡ true
digits_pass [] d = refl
digits_pass (c ∷ cs) d =
    let r = digit_from_value c d.0 in
    let here : flat.is_word c ≡ true = grind (arith, nat_tests, r.0, r.1) in
    ap (λ t. t && list_all flat.is_word cs) here ∙ digits_pass cs d.1

auxiliary_is : (k : ℕ) → k < 10 ^ 64 → IsName (auxiliary_name k)
auxiliary_is k small = ((refl, digits_pass (decimal k) (decimal_is_IsNumeral_wide k small).0.1), no_keyword (auxiliary_name k) keywords refl refl)

-- names that differ

auxiliary_injective : (j k : ℕ) → j < 10 ^ 64 → k < 10 ^ 64 → auxiliary_name j ≡ auxiliary_name k → j ≡ k
auxiliary_injective j k sj sk e =
    sym (decimal_is_IsNumeral_wide j sj).1 ∙ ap (λ w. digits_value 10 (drop 2 w)) e ∙ (decimal_is_IsNumeral_wide k sk).1

-- each differs from all that come later
abbrev Differ : List (List ℕ) → Type 0
Differ [] = Unit {0}
Differ (x ∷ xs) = AllByRecursion (λ y. x ≢ y) xs × Differ xs

all_at : {X : Type 0} (P : X → Type 0) (xs : List X) → AllByRecursion P xs → All P xs
all_at {X = X} P [] h = All-nil P
all_at {X = X} P (x ∷ xs) h = at (all_at P xs h.1)
  where
    at : All P xs → (k : ℕ) (d : X) → k < length (x ∷ xs) → P (slice_index_or (x ∷ xs) k d)
    at later zero d lt = h.0
    at later (suc k) d lt = later k d (omega arith)

pairs : (xs : List (List ℕ)) → Differ xs → AllPairs (λ a b. a ≢ b) xs
pairs [] h = λ i j d lt below. absurd (omega arith)
pairs (x ∷ xs) h = AllPairs-cons (λ a b. a ≢ b) x xs (all_at (λ y. x ≢ y) xs h.0) (pairs xs h.1)

auxiliaries : (from n : ℕ) → from + n ≤ 2 ^ 64 → AllByRecursion IsName (map auxiliary_name (range_with_len from n)) × Differ (map auxiliary_name (range_with_len from n))
auxiliaries from zero le = (tt, tt)
auxiliaries from (suc n) le =
    let later = auxiliaries (from + 1) n (omega arith) in
    ((auxiliary_is from (omega arith), later.0), (apart_from (from + 1) n (omega arith) (omega arith), later.1))
  where
    apart_from : (start m : ℕ) → from < start → start + m ≤ 2 ^ 64 → AllByRecursion (λ y. auxiliary_name from ≢ y) (map auxiliary_name (range_with_len start m))
    apart_from start zero lt le = tt
    apart_from start (suc m) lt le = (λ e. let same = auxiliary_injective from start (omega arith) (omega arith) e in absurd (omega (arith, same)), apart_from (start + 1) m (omega arith) (omega arith))

spelled_apart : (word : List ℕ) (from n : ℕ) → AllByRecursion (λ y. spelled word ≢ y) (map auxiliary_name (range_with_len from n))
spelled_apart word from zero = tt
spelled_apart word from (suc n) = (λ e. let wrong = ap (λ w. get_or w 0 0) e in absurd (omega (arith, wrong)), spelled_apart word (from + 1) n)

all_join : {X : Type 0} (P : X → Type 0) (xs ys : List X) → AllByRecursion P xs → AllByRecursion P ys → AllByRecursion P (xs ++ ys)
all_join P [] ys h k = k
all_join P (x ∷ xs) ys h k = (h.0, all_join P xs ys h.1 k)

-- the first of a list differs from the others

later_differ : (x : List ℕ) (xs : List (List ℕ)) → AllPairs (λ v w. v ≢ w) (x ∷ xs) → (k : ℕ) → k < length xs → x ≢ get_or xs k []
later_differ x xs h k lt = h 0 (suc k) [] (omega arith) (omega arith)

tail_differ : (x : List ℕ) (xs : List (List ℕ)) → AllPairs (λ v w. v ≢ w) (x ∷ xs) → AllPairs (λ v w. v ≢ w) xs
tail_differ x xs h = λ i j d lt below. h (suc i) (suc j) d (omega arith) (omega arith)

spelled_differ : (x : List ℕ) (xs : List (List ℕ)) → IsDirectWord x → AllByRecursion IsDirectWord xs → ((k : ℕ) → k < length xs → x ≢ get_or xs k []) → AllByRecursion (λ y. spelled x ≢ y) (map spelled xs)
spelled_differ x [] d ds h = tt
spelled_differ x (y ∷ ys) d ds h = (λ e. h 0 (omega arith) (injective x y d ds.0 e), spelled_differ x ys d ds.1 (λ k lt. h (suc k) (omega arith)))

spelled_names : (words : List (List ℕ)) (n : ℕ) → AllByRecursion IsDirectWord words → AllPairs (λ v w. v ≢ w) words → n ≤ 2 ^ 64 → AllByRecursion IsName (low_names words n) × Differ (low_names words n)
spelled_names [] n ds h le = auxiliaries 0 n (omega arith)
spelled_names (w ∷ ws) n ds h le =
    let later = spelled_names ws n ds.1 (tail_differ w ws h) le in
    ((spelled_name w ds.0, later.0), (all_join (λ y. spelled w ≢ y) (map spelled ws) (map auxiliary_name (range_with_len 0 n)) (spelled_differ w ws ds.0 ds.1 (later_differ w ws h)) (spelled_apart w 0 n), later.1))

pub are_low_names : AreLowNames
are_low_names words n ds h le = let r = spelled_names words n ds h le in (r.0, pairs (low_names words n) r.1)
