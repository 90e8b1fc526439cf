-- How the tokens of a text begin.
use Rattle.std.proofs.Common.{◌≡◌, ℕ, suc, ◌+◌, ◌<◌, ◌==◌, Bool, true, false, not, cond, ◌&&◌, if◌then◌else◌, List, [], ◌∷◌, length, take, drop, get_or, refl, ap, sym, subst, ◌∙◌, arith}
use Rattle.std.proofs.lemmas.Grind.{common_steps}
use Rattle.std.specs.List.{prefix_len}
use Rattle.xs_fields.specs.Words.{is_space, onto_first}
use Rattle.xs_expr.specs.Tokens.{is_mark, is_in_word, onto_word, with_byte, tokens_of, token_len}

-- whitespace at the front
pub tokens-past : (bytes : List ℕ) → tokens_of (drop (prefix_len is_space bytes) bytes) ≡ tokens_of bytes
tokens-past [] = refl
tokens-past (b ∷ bs) = by (is_space b) refl (tokens-past bs)
  where
    by : (v : Bool) → is_space b ≡ v → tokens_of (drop (prefix_len is_space bs) bs) ≡ tokens_of bs → tokens_of (drop (cond v (1 + prefix_len is_space bs) 0) (b ∷ bs)) ≡ (if v then tokens_of bs else (if is_mark b then (b ∷ []) ∷ tokens_of bs else onto_word b bs (tokens_of bs)))
    by true e rest =
        let s : 1 + prefix_len is_space bs ≡ suc (prefix_len is_space bs) = omega arith in
        rw s rest
    by false e rest = ap (λ (v : Bool). if v then tokens_of bs else (if is_mark b then (b ∷ []) ∷ tokens_of bs else onto_word b bs (tokens_of bs))) e

-- no whitespace behind the whitespace at the front
pub token-begins : (bytes : List ℕ) → 0 < length (drop (prefix_len is_space bytes) bytes) → is_space (get_or (drop (prefix_len is_space bytes) bytes) 0 0) ≡ false
token-begins [] h = absurd (omega arith)
token-begins (b ∷ bs) h = by (is_space b) refl (token-begins bs) h
  where
    by : (v : Bool) → is_space b ≡ v → (0 < length (drop (prefix_len is_space bs) bs) → is_space (get_or (drop (prefix_len is_space bs) bs) 0 0) ≡ false) → 0 < length (drop (cond v (1 + prefix_len is_space bs) 0) (b ∷ bs)) → is_space (get_or (drop (cond v (1 + prefix_len is_space bs) 0) (b ∷ bs)) 0 0) ≡ false
    by true e rest h =
        let s : 1 + prefix_len is_space bs ≡ suc (prefix_len is_space bs) = omega arith in
        let h' : 0 < length (drop (suc (prefix_len is_space bs)) (b ∷ bs)) = subst (λ (n : ℕ). 0 < length (drop n (b ∷ bs))) s h in
        rw s (rest h')
    by false e rest h = e

in_word : (s m : Bool) → s ≡ false → m ≡ false → (not s && not m) ≡ true
in_word false false g h = refl
in_word true m g h = cc
in_word false true g h = cc

with_word : (b : ℕ) (bs : List ℕ) (ts : List (List ℕ)) → is_in_word b ≡ true → with_byte b bs ts ≡ onto_word b bs ts
with_word b bs ts = by (is_space b) (is_mark b)
  where
    by : (s m : Bool) → (not s && not m) ≡ true → (if s then ts else (if m then (b ∷ []) ∷ ts else onto_word b bs ts)) ≡ onto_word b bs ts
    by false false h = refl
    by true m h = cc
    by false true h = cc

with_mark : (b : ℕ) (bs : List ℕ) (ts : List (List ℕ)) → is_space b ≡ false → is_mark b ≡ true → with_byte b bs ts ≡ (b ∷ []) ∷ ts
with_mark b bs ts = by (is_space b) (is_mark b)
  where
    by : (s m : Bool) → s ≡ false → m ≡ true → (if s then ts else (if m then (b ∷ []) ∷ ts else onto_word b bs ts)) ≡ (b ∷ []) ∷ ts
    by false true g h = refl
    by true m g h = cc
    by false false g h = cc

-- a word with one byte more before it
onto-front : (b : ℕ) (bs : List ℕ) → onto_word b bs (tokens_of bs) ≡ (b ∷ take (prefix_len is_in_word bs) bs) ∷ tokens_of (drop (prefix_len is_in_word bs) bs)
onto-front b [] = refl
onto-front b (c ∷ cs) = by (is_in_word c) refl (onto-front c cs)
  where
    by : (v : Bool) → is_in_word c ≡ v → onto_word c cs (tokens_of cs) ≡ (c ∷ take (prefix_len is_in_word cs) cs) ∷ tokens_of (drop (prefix_len is_in_word cs) cs) → (if v then onto_first b (tokens_of (c ∷ cs)) else (b ∷ []) ∷ tokens_of (c ∷ cs)) ≡ (b ∷ take (cond v (1 + prefix_len is_in_word cs) 0) (c ∷ cs)) ∷ tokens_of (drop (cond v (1 + prefix_len is_in_word cs) 0) (c ∷ cs))
    by true e front =
        let s : 1 + prefix_len is_in_word cs ≡ suc (prefix_len is_in_word cs) = omega arith in
        rw s (ap (onto_first b) (with_word c cs (tokens_of cs) e ∙ front))
    by false e front = refl

word_len-suc : (b : ℕ) (bs : List ℕ) → is_in_word b ≡ true → prefix_len is_in_word (b ∷ bs) ≡ suc (prefix_len is_in_word bs)
word_len-suc b bs e =
    let s : 1 + prefix_len is_in_word bs ≡ suc (prefix_len is_in_word bs) = omega arith in
    ap (λ (v : Bool). cond v (1 + prefix_len is_in_word bs) 0) e ∙ s

-- what a text begins with, and how much is left behind it
pub record Front (bytes : List ℕ) (n : ℕ) : Type 0 where
  pub value : tokens_of bytes ≡ take n bytes ∷ tokens_of (drop n bytes)
  pub some : 0 < n

front-by : (b : ℕ) (bs : List ℕ) (m : Bool) → is_mark b ≡ m → is_space b ≡ false → Front (b ∷ bs) (if m then 1 else prefix_len is_in_word (b ∷ bs))
front-by b bs true e h = record { value = with_mark b bs (tokens_of bs) h e; some = omega arith }
front-by b bs false e h =
    let within = in_word (is_space b) (is_mark b) h e in
    let s = word_len-suc b bs within in
    subst (Front (b ∷ bs)) (sym s) (record { value = with_word b bs (tokens_of bs) within ∙ onto-front b bs; some = omega arith })

pub token-front : (bytes : List ℕ) → 0 < length bytes → is_space (get_or bytes 0 0) ≡ false → Front bytes (token_len bytes)
token-front [] h front = absurd (omega arith)
token-front (b ∷ bs) h front = front-by b bs (is_mark b) refl front

pub tokens-past-is : (bytes rest : List ℕ) (n : ℕ) → n ≡ prefix_len is_space bytes → rest ≡ drop n bytes → tokens_of bytes ≡ tokens_of rest
tokens-past-is bytes rest n same is = sym (ap tokens_of (is ∙ ap (λ (k : ℕ). drop k bytes) same) ∙ tokens-past bytes)

pub token-begins-is : (bytes rest : List ℕ) (n : ℕ) → n ≡ prefix_len is_space bytes → rest ≡ drop n bytes → 0 < length rest → is_space (get_or rest 0 0) ≡ false
token-begins-is bytes rest n same is h =
    let all : rest ≡ drop (prefix_len is_space bytes) bytes = is ∙ ap (λ (k : ℕ). drop k bytes) same in
    subst (λ (xs : List ℕ). is_space (get_or xs 0 0) ≡ false) (sym all) (token-begins bytes (subst (λ (xs : List ℕ). 0 < length xs) all h))

pub empty-is : (xs : List ℕ) → (length xs == 0) ≡ true → xs ≡ []
empty-is [] h = refl
empty-is (x ∷ xs) h = grind arith

pub filled-is : (xs : List ℕ) → (length xs == 0) ≡ false → 0 < length xs
filled-is [] h = cc
filled-is (x ∷ xs) h = omega arith

pub behind-shorter : (bytes rest : List ℕ) (n : ℕ) → 0 < n → 0 < length bytes → rest ≡ drop n bytes → length rest < length bytes
behind-shorter bytes rest n some h is = grind (arith, common_steps)
