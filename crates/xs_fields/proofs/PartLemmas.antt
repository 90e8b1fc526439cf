-- How the parts and the words of a text begin.
use Rattle.std.proofs.Common.{◌≡◌, ℕ, suc, ◌+◌, ◌<◌, Bool, true, false, not, cond, if◌then◌else◌, nat_lt, None, Some, List, [], ◌∷◌, length, take, drop, get_or, drop-cons, refl, ap, sym, subst, ◌∙◌, arith}
use Rattle.std.specs.List.{position, position_or_len, filter}
use Rattle.std.proofs.lemmas.List.{take_all, drop_all, length-take-le, get_or-drop}
use Rattle.std.proofs.lemmas.List.Sums.{prefix_len-le-length, prefix_len_stops}
use borrow.Author.Tests.{ltb-true, ltb-false, lt-ltb, not-true, not-false}
use Rattle.xs_fields.specs.Words.{is_space, parts, onto_first, words_of, is_nonempty}

-- what the parts are behind the first, from the bytes behind it on
abbrev pub later_parts : (ℕ → Bool) → List ℕ → List (List ℕ)
later_parts test [] = []
later_parts test (b ∷ bs) = parts test bs

-- the first part, and the others
pub parts_front : (test : ℕ → Bool) (bytes : List ℕ) → parts test bytes ≡ take (position_or_len test bytes) bytes ∷ later_parts test (drop (position_or_len test bytes) bytes)
parts_front test [] = refl
parts_front test (b ∷ bs) = by (test b) refl (parts_front test bs)
  where
    by : (v : Bool) → test b ≡ v → parts test bs ≡ take (position_or_len test bs) bs ∷ later_parts test (drop (position_or_len test bs) bs) → (if v then [] ∷ parts test bs else onto_first b (parts test bs)) ≡ take (cond (not v) (1 + position_or_len test bs) 0) (b ∷ bs) ∷ later_parts test (drop (cond (not v) (1 + position_or_len test bs) 0) (b ∷ bs))
    by true e front = refl
    by false e front =
        let s : 1 + position_or_len test bs ≡ suc (position_or_len test bs) = omega arith in
        rw s (ap (onto_first b) front)

pub position_some : (test : ℕ → Bool) (bytes : List ℕ) (n : ℕ) → position test bytes ≡ Some n → (n ≡ position_or_len test bytes) × (n < length bytes)
position_some test bytes n = by (nat_lt (position_or_len test bytes) (length bytes)) refl
  where
    by : (v : Bool) → nat_lt (position_or_len test bytes) (length bytes) ≡ v → cond v (Some (position_or_len test bytes)) None ≡ Some n → (n ≡ position_or_len test bytes) × (n < length bytes)
    by true e h = let s : n ≡ position_or_len test bytes = cc in (s, omega (arith, ltb-true _ _ e))
    by false e h = cc

pub position_none : (test : ℕ → Bool) (bytes : List ℕ) → position test bytes ≡ None → position_or_len test bytes ≡ length bytes
position_none test bytes = by (nat_lt (position_or_len test bytes) (length bytes)) refl
  where
    by : (v : Bool) → nat_lt (position_or_len test bytes) (length bytes) ≡ v → cond v (Some (position_or_len test bytes)) None ≡ None → position_or_len test bytes ≡ length bytes
    by true e h = cc
    by false e h = omega (arith, ltb-false _ _ e, prefix_len-le-length (λ b. not (test b)) bytes)

pub parts_cut : (test : ℕ → Bool) (bytes : List ℕ) (n : ℕ) → position test bytes ≡ Some n → parts test bytes ≡ take n bytes ∷ parts test (drop (n + 1) bytes)
parts_cut test bytes n h =
    let at = position_some test bytes n h in
    let s : n + 1 ≡ suc n = omega arith in
    parts_front test bytes ∙ ap (λ m. take m bytes ∷ later_parts test (drop m bytes)) (sym at.0) ∙ ap (λ ys. take n bytes ∷ later_parts test ys) (drop-cons bytes n 0 at.1) ∙ ap (λ m. take n bytes ∷ parts test (drop m bytes)) (sym s)

pub parts_whole : (test : ℕ → Bool) (bytes : List ℕ) → position test bytes ≡ None → parts test bytes ≡ bytes ∷ []
parts_whole test bytes h =
    let at = position_none test bytes h in
    parts_front test bytes ∙ ap (λ m. take m bytes ∷ later_parts test (drop m bytes)) at ∙ ap (λ ys. ys ∷ later_parts test (drop (length bytes) bytes)) (take_all (length bytes) bytes (omega arith)) ∙ ap (λ ys. bytes ∷ later_parts test ys) (drop_all (length bytes) bytes (omega arith))

-- whitespace at the front
pub words_past : (bytes : List ℕ) → words_of (drop (position_or_len (λ b. not (is_space b)) bytes) bytes) ≡ words_of bytes
words_past [] = refl
words_past (b ∷ bs) = by (is_space b) refl (words_past bs)
  where
    by : (v : Bool) → is_space b ≡ v → words_of (drop (position_or_len (λ b. not (is_space b)) bs) bs) ≡ words_of bs → words_of (drop (cond (not (not v)) (1 + position_or_len (λ b. not (is_space b)) bs) 0) (b ∷ bs)) ≡ filter is_nonempty (if v then [] ∷ parts is_space bs else onto_first b (parts is_space bs))
    by true e rest =
        let s : 1 + position_or_len (λ b. not (is_space b)) bs ≡ suc (position_or_len (λ b. not (is_space b)) bs) = omega arith in
        rw s rest
    by false e rest = ap (λ (v : Bool). filter is_nonempty (if v then [] ∷ parts is_space bs else onto_first b (parts is_space bs))) e

-- a text that begins with whitespace
pub words_space : (b : ℕ) (bs : List ℕ) → is_space b ≡ true → words_of (b ∷ bs) ≡ words_of bs
words_space b bs e = ap (λ (v : Bool). filter is_nonempty (if v then [] ∷ parts is_space bs else onto_first b (parts is_space bs))) e

-- the words of parts of which the first is not empty
kept : (p : List ℕ) (ps : List (List ℕ)) → 0 < length p → filter is_nonempty (p ∷ ps) ≡ p ∷ filter is_nonempty ps
kept p ps h = ap (λ (v : Bool). cond v (p ∷ filter is_nonempty ps) (filter is_nonempty ps)) (lt-ltb _ _ h)

-- no whitespace at the front: the place of the first whitespace is not 0
inner : (bytes : List ℕ) → 0 < length bytes → is_space (get_or bytes 0 0) ≡ false → 0 < position_or_len is_space bytes
inner [] h e = absurd (omega arith)
inner (b ∷ bs) h e = subst (λ (v : Bool). 0 < cond (not v) (1 + position_or_len is_space bs) 0) (sym e) (omega arith)

pub words_word : (bytes : List ℕ) (n : ℕ) → 0 < length bytes → is_space (get_or bytes 0 0) ≡ false → position is_space bytes ≡ Some n → words_of bytes ≡ take n bytes ∷ words_of (drop n bytes)
words_word bytes n some front h =
    let at = position_some is_space bytes n h in
    let stops : not (is_space (get_or bytes (position_or_len is_space bytes) 0)) ≡ false = prefix_len_stops (λ b. not (is_space b)) bytes 0 (omega (arith, at.0, at.1)) in
    let space : is_space (get_or bytes n 0) ≡ true = not-false _ (ap (λ m. not (is_space (get_or bytes m 0))) at.0 ∙ stops) in
    let s : n + 1 ≡ suc n = omega arith in
    let behind : words_of (drop n bytes) ≡ words_of (drop (n + 1) bytes) = ap words_of (drop-cons bytes n 0 at.1) ∙ words_space (get_or bytes n 0) (drop (suc n) bytes) space ∙ ap (λ m. words_of (drop m bytes)) (sym s) in
    ap (filter is_nonempty) (parts_cut is_space bytes n h) ∙ kept (take n bytes) (parts is_space (drop (n + 1) bytes)) (omega (arith, length-take-le n bytes (omega (arith, at.1)), at.0, at.1, inner bytes some front)) ∙ ap (λ ws. take n bytes ∷ ws) (sym behind)

pub words_last : (bytes : List ℕ) → 0 < length bytes → position is_space bytes ≡ None → words_of bytes ≡ bytes ∷ []
words_last bytes some h = ap (filter is_nonempty) (parts_whole is_space bytes h) ∙ kept bytes [] some

pub words_none : (bytes : List ℕ) → position (λ b. not (is_space b)) bytes ≡ None → words_of bytes ≡ []
words_none bytes h =
    sym (words_past bytes) ∙ ap (λ m. words_of (drop m bytes)) (position_none (λ b. not (is_space b)) bytes h) ∙ ap words_of (drop_all (length bytes) bytes (omega arith))

-- no whitespace where the first word begins
pub word_begins : (bytes : List ℕ) (n : ℕ) → position (λ b. not (is_space b)) bytes ≡ Some n → is_space (get_or (drop n bytes) 0 0) ≡ false
word_begins bytes n h =
    let at = position_some (λ b. not (is_space b)) bytes n h in
    let stops : not (not (is_space (get_or bytes (position_or_len (λ b. not (is_space b)) bytes) 0))) ≡ false = prefix_len_stops (λ b. not (not (is_space b))) bytes 0 (omega (arith, at.0, at.1)) in
    let same : get_or (drop n bytes) 0 0 ≡ get_or bytes (position_or_len (λ b. not (is_space b)) bytes) 0 = get_or-drop n bytes 0 0 ∙ ap (λ m. get_or bytes m 0) (omega (arith, at.0)) in
    ap is_space same ∙ not-true _ (not-false _ stops)

pub words_past_first : (bytes : List ℕ) (n : ℕ) → position (λ b. not (is_space b)) bytes ≡ Some n → words_of (drop n bytes) ≡ words_of bytes
words_past_first bytes n h = ap (λ m. words_of (drop m bytes)) (position_some (λ b. not (is_space b)) bytes n h).0 ∙ words_past bytes
