-- The tokens of a text of words and marks.
use Rattle.std.proofs.Common.{◌≡◌, ℕ, ◌≤◌, Bool, true, false, not, ◌&&◌, if◌then◌else◌, List, [], ◌∷◌, ◌++◌, codes, refl, ap, sym, ◌∙◌, arith}
use Rattle.std.specs.Prelude.{⊤}
use Rattle.std.specs.List.{list_all}
use Rattle.std.specs.Str.{bytes_eq}
use Rattle.std.proofs.lemmas.Slice.Eq.{bytes_eq-Decides}
use borrow.Author.Tests.{ne_eqb}
use Rattle.xs_expr.specs.Tokens.{is_mark, is_in_word, onto_word, with_byte, tokens_of}
use Rattle.xs_expr.specs.Text.{name_of}
use Rattle.xs_fields.specs.Words.{is_space, onto_first}
use Rattle.xs_model.specs.declared.expr.Op.{Op}
use Rattle.xs_model.specs.declared.expr.Op.TheVariants.{Neg, Abs, Sqr, Add, Mul, Sub, Dist, Div, Mod, Pow, Min, Max, Lt, Le, Gt, Ge, Ne, Eq, Set, In, NotIn, Not, And, Or, Xor, Iff, Imp, If}
use Rattle.xs_notation.specs.Notation.{is_plain}

-- no word goes on with this text
abbrev pub Stops : List ℕ → Type 0
Stops [] = ⊤
Stops (c ∷ cs) = is_in_word c ≡ false

-- a text is one word
abbrev pub IsOneWord : List ℕ → Type 0
IsOneWord [] = ⊥
IsOneWord (b ∷ bs) = (is_in_word b ≡ true) × (list_all is_in_word bs ≡ true)

both-left : (a b : Bool) → (a && b) ≡ true → a ≡ true
both-left true b h = refl
both-left false b h = cc

both-right : (a b : Bool) → (a && b) ≡ true → b ≡ true
both-right true b h = h
both-right false b h = cc

with-word : (b : ℕ) (bs : List ℕ) (ts : List (List ℕ)) → is_in_word b ≡ true → with_byte b bs ts ≡ onto_word b bs ts
with-word b bs ts = by (is_space b) (is_mark b)
  where
    by : (s m : Bool) → (not s && not m) ≡ true → (if s then ts else (if m then (b ∷ []) ∷ ts else onto_word b bs ts)) ≡ onto_word b bs ts
    by false false h = refl
    by true m h = cc
    by false true h = cc

stopped : (b : ℕ) (rest : List ℕ) → Stops rest → onto_word b rest (tokens_of rest) ≡ (b ∷ []) ∷ tokens_of rest
stopped b [] h = refl
stopped b (c ∷ cs) h = ap (λ (v : Bool). if v then onto_first b (tokens_of (c ∷ cs)) else (b ∷ []) ∷ tokens_of (c ∷ cs)) h

word-first : (b : ℕ) (bs rest : List ℕ) → is_in_word b ≡ true → list_all is_in_word bs ≡ true → Stops rest → tokens_of (b ∷ (bs ++ rest)) ≡ (b ∷ bs) ∷ tokens_of rest
word-first b [] rest h g s = with-word b rest (tokens_of rest) h ∙ stopped b rest s
word-first b (c ∷ cs) rest h g s =
    let own = both-left (is_in_word c) (list_all is_in_word cs) g in
    let next = word-first c cs rest own (both-right (is_in_word c) (list_all is_in_word cs) g) s in
    let ts : List (List ℕ) = tokens_of (c ∷ (cs ++ rest)) in
    with-word b (c ∷ (cs ++ rest)) ts h
    ∙ ap (λ (v : Bool). if v then onto_first b ts else (b ∷ []) ∷ ts) own
    ∙ ap (onto_first b) next

-- a word before what stops it
pub word-token : (w rest : List ℕ) → IsOneWord w → Stops rest → tokens_of (w ++ rest) ≡ w ∷ tokens_of rest
word-token [] rest h s = absurd h
word-token (b ∷ bs) rest h s = word-first b bs rest h.0 h.1 s

-- a word is no mark
other : (b m : ℕ) (bs : List ℕ) → is_in_word b ≡ true → is_in_word m ≡ false → not (bytes_eq (b ∷ bs) (m ∷ [])) ≡ true
other b m bs h g = by (bytes_eq (b ∷ bs) (m ∷ [])) refl
  where
    by : (v : Bool) → bytes_eq (b ∷ bs) (m ∷ []) ≡ v → not v ≡ true
    by false e = refl
    by true e =
        let same : b ∷ bs ≡ m ∷ [] = (bytes_eq-Decides (b ∷ bs) (m ∷ [])).0 e in
        let first : b ≡ m = cc in
        let no : true ≡ false = sym h ∙ ap is_in_word first ∙ g in
        cc

pub plain-word : (w : List ℕ) → IsOneWord w → is_plain w ≡ true
plain-word [] h = absurd h
plain-word (b ∷ bs) h =
    let no = other b 40 bs h.0 refl in
    let na = other b 41 bs h.0 refl in
    let nb = other b 44 bs h.0 refl in
    ap (λ (t : Bool). t && (not (bytes_eq (b ∷ bs) (codes ")")) && not (bytes_eq (b ∷ bs) (codes ",")))) no
    ∙ ap (λ (t : Bool). t && not (bytes_eq (b ∷ bs) (codes ","))) na
    ∙ nb

-- a byte from `-` on is no mark and no whitespace
pub high-byte : (c : ℕ) → 45 ≤ c → is_in_word c ≡ true
high-byte c h = rw (ne_eqb c 32 (λ e. omega arith), ne_eqb c 9 (λ e. omega arith), ne_eqb c 13 (λ e. omega arith), ne_eqb c 10 (λ e. omega arith), ne_eqb c 40 (λ e. omega arith), ne_eqb c 41 (λ e. omega arith), ne_eqb c 44 (λ e. omega arith)) refl

-- the name of an operator is a word
pub name-word : (op : Op) → IsOneWord (name_of op)
unfolding name_of
name-word Neg = (refl, refl)
name-word Abs = (refl, refl)
name-word Sqr = (refl, refl)
name-word Add = (refl, refl)
name-word Mul = (refl, refl)
name-word Sub = (refl, refl)
name-word Dist = (refl, refl)
name-word Div = (refl, refl)
name-word Mod = (refl, refl)
name-word Pow = (refl, refl)
name-word Min = (refl, refl)
name-word Max = (refl, refl)
name-word Lt = (refl, refl)
name-word Le = (refl, refl)
name-word Gt = (refl, refl)
name-word Ge = (refl, refl)
name-word Ne = (refl, refl)
name-word Eq = (refl, refl)
name-word Set = (refl, refl)
name-word In = (refl, refl)
name-word NotIn = (refl, refl)
name-word Not = (refl, refl)
name-word And = (refl, refl)
name-word Or = (refl, refl)
name-word Xor = (refl, refl)
name-word Iff = (refl, refl)
name-word Imp = (refl, refl)
name-word If = (refl, refl)
