-- How a direct word is cut into its name and its brackets.
use Rattle.std.proofs.Common.{◌≡◌, ℕ, suc, ◌-◌, ◌<◌, ◌≤◌, ◌^◌, ◌==◌, Bool, true, false, not, ◌&&◌, ◌||◌, if◌then◌else◌, nat_le, nat_lt, List, [], ◌∷◌, ◌++◌, length, map, take, drop, refl, ap, subst, ◌∙◌, arith, pos, None, Some, Ok, Err, codes, append-nil, length-append, inl, inr}
use lib.Pointwise.{pointwise}
use Rattle.std.specs.Prelude.{nat_eq, ◌⊎◌}
use Rattle.std.proofs.lemmas.Bool.{cases_lt}
use Rattle.std.specs.List.{AllByRecursion, ends_with, flat_map, list_all}
use Rattle.std.specs.Option.{option_map}
use Rattle.std.proofs.lemmas.List.{take_at, drop_at}
use Rattle.std.proofs.lemmas.List.Folds.{list_all-append}
use borrow.Author.Tests.{ne_eqb, le-leb, lt-leb, lt-ltb}
use Rattle.xs_fields.specs.Conditions.{all_meet, judged, meets}
use Rattle.xs_fields.specs.Integers.{integer_of, is_small}
use Rattle.xs_fields.specs.Sizes.{inner_of, integer_in, size_meets, size_of}
use Rattle.xs_fields.specs.Variables.{bracket_in, bracket_inside, bracket_list, bracket_meets, bracket_of, brackets_from, is_small_bracket}
use Rattle.xs_fields.specs.Words.{is_byte, onto_first, parts}
use Rattle.xs_fields.specs.declared.condition.Condition.{Condition}
use Rattle.xs_fields.specs.declared.condition.Condition.TheVariants.{Known, Nesting, Spelling, Magnitude, Naming, Counting, Fitting}
use Rattle.xs_fields.specs.declared.variable.Bracket.TheVariants.{At}
use Rattle.xs_model.specs.Denotes.{bracketed, SpellsIndex, SpellIndices}
use Rattle.xs_model.specs.Identifier.{is_digit, is_letter, is_word, IsIdentifier}
use Rattle.xs_fields.specs.Identifiers.{identifier_meets}
use Rattle.xs_fields.proofs.Decimals.{integer-is, integer-bytes, integer-some}
use Rattle.xs_fields.proofs.IndexPlaces.{at_each}

pub both : (a b : Bool) → a ≡ true → b ≡ true → (a && b) ≡ true
both a b g h = ap (λ (t : Bool). t && b) g ∙ h

pub both-left : (a b : Bool) → (a && b) ≡ true → a ≡ true
both-left true b h = refl
both-left false b h = cc

pub both-right : (a b : Bool) → (a && b) ≡ true → b ≡ true
both-right true b h = h
both-right false b h = cc

not-is : (a : Bool) → not a ≡ true → a ≡ false
not-is true h = cc
not-is false h = refl

-- a text without the byte
abbrev pub lacks : ℕ → List ℕ → Bool
lacks stop t = list_all (λ b. not (is_byte stop b)) t

parts-onto : (stop b : ℕ) (bs : List ℕ) → not (is_byte stop b) ≡ true → parts (is_byte stop) (b ∷ bs) ≡ onto_first b (parts (is_byte stop) bs)
parts-onto stop b bs h = ap (λ (v : Bool). if v then [] ∷ parts (is_byte stop) bs else onto_first b (parts (is_byte stop) bs)) (not-is (is_byte stop b) h)

-- a text without the byte is one part
pub parts-whole : (stop : ℕ) (t : List ℕ) → lacks stop t ≡ true → parts (is_byte stop) t ≡ t ∷ []
parts-whole stop [] h = refl
parts-whole stop (b ∷ bs) h =
    parts-onto stop b bs (both-left (not (is_byte stop b)) (lacks stop bs) h)
    ∙ ap (onto_first b) (parts-whole stop bs (both-right (not (is_byte stop b)) (lacks stop bs) h))

-- what stands before the first `[` is the first part
parts-first : (t rest : List ℕ) → lacks 91 t ≡ true → parts (is_byte 91) (t ++ 91 ∷ rest) ≡ t ∷ parts (is_byte 91) rest
parts-first [] rest h = refl
parts-first (b ∷ bs) rest h =
    parts-onto 91 b (bs ++ 91 ∷ rest) (both-left (not (is_byte 91 b)) (lacks 91 bs) h)
    ∙ ap (onto_first b) (parts-first bs rest (both-right (not (is_byte 91 b)) (lacks 91 bs) h))

abbrev pub closed : List ℕ → List ℕ
closed t = t ++ 93 ∷ []

lacks-closed : (t : List ℕ) → lacks 91 t ≡ true → lacks 91 (closed t) ≡ true
lacks-closed t h = list_all-append (λ b. not (is_byte 91 b)) t (93 ∷ []) ∙ both (lacks 91 t) true h refl

not-byte : (stop c : ℕ) → ¬ (c ≡ stop) → not (is_byte stop c) ≡ true
not-byte stop c h = ap not (ne_eqb c stop h)

-- an index lacks a bracket and a dot
index-bracket : (t : List ℕ) (i : ℕ) → SpellsIndex t i → lacks 91 t ≡ true
index-bracket t i h = integer-bytes (λ b. not (is_byte 91 b)) refl refl (λ c l g. not-byte 91 c (λ e. omega arith)) t h.0

index-dot : (t : List ℕ) (i : ℕ) → SpellsIndex t i → lacks 46 t ≡ true
index-dot t i h = integer-bytes (λ b. not (is_byte 46 b)) refl refl (λ c l g. not-byte 46 c (λ e. omega arith)) t h.0

-- a name and brackets, as parts
pub parts-are : (front : List ℕ) (ts : List (List ℕ)) (is : List ℕ) → lacks 91 front ≡ true → SpellIndices ts is → parts (is_byte 91) (front ++ flat_map bracketed ts) ≡ front ∷ map closed ts
parts-are front [] is h s = ap (parts (is_byte 91)) (append-nil front) ∙ parts-whole 91 front h
parts-are front (t ∷ ts) [] h s = absurd s
parts-are front (t ∷ ts) (i ∷ is) h s =
    parts-first front (closed t ++ flat_map bracketed ts) h
    ∙ ap (λ ps. front ∷ ps) (parts-are (closed t) ts is (lacks-closed t (index-bracket t i s.0)) s.1)

-- what stands in a bracket
pub inner-is : (t : List ℕ) → inner_of (closed t) ≡ Some t
inner-is t =
    let n : length (closed t) - 1 ≡ length t = omega (arith, length-append t (93 ∷ [])) in
    let end : drop (length (closed t) - 1) (closed t) ≡ 93 ∷ [] = ap (λ m. drop m (closed t)) n ∙ drop_at t (93 ∷ []) (length t) refl in
    let front : take (length (closed t) - 1) (closed t) ≡ t = ap (λ m. take m (closed t)) n ∙ take_at t (93 ∷ []) (length t) refl in
    let ends : ends_with nat_eq (closed t) (codes "]") ≡ true = ap (λ xs. pointwise nat_eq (codes "]") xs) end in
    ap (λ (v : Bool). if v then Some (take (length (closed t) - 1) (closed t)) else None) ends ∙ ap (λ x. Some x) front

-- an index below 2^64 is small
small-index : (i : ℕ) → i < 2 ^ 64 → is_small (pos i) ≡ true
small-index i h = le-leb i (2 ^ 126 - 1) (omega (arith, h))

inside-whole : (t : List ℕ) → 0 < length t → bracket_in (t ∷ []) ≡ option_map At (integer_of t)
inside-whole [] h = absurd (omega arith)
inside-whole (b ∷ bs) h = refl

-- a bracket of one index
bracket-is : (t : List ℕ) (i : ℕ) → SpellsIndex t i → bracket_of (closed t) ≡ Some (At (pos i))
bracket-is t i h =
    ap bracket_inside (inner-is t)
    ∙ ap bracket_in (parts-whole 46 t (index-dot t i h))
    ∙ inside-whole t (integer-some t h.0)
    ∙ ap (option_map At) (integer-is t (pos i) h)

size-is : (t : List ℕ) (i : ℕ) → SpellsIndex t i → size_of (closed t) ≡ Some (pos i)
size-is t i h = ap integer_in (inner-is t) ∙ integer-is t (pos i) h

-- a small value meets every condition on a word
all-met : {A : Type 0} (small : A → Bool) (x : A) → small x ≡ true → (k : Condition) → meets small (Some x) k ≡ true
all-met small x h Known = refl
all-met small x h Nesting = refl
all-met small x h Spelling = refl
all-met small x h Magnitude = h
all-met small x h Naming = refl
all-met small x h Counting = refl
all-met small x h Fitting = refl

bracket-met : (t : List ℕ) (i : ℕ) → SpellsIndex t i → i < 2 ^ 64 → (k : Condition) → bracket_meets (closed t) k ≡ true
bracket-met t i h l k = ap (λ o. meets is_small_bracket o k) (bracket-is t i h) ∙ all-met is_small_bracket (At (pos i)) (small-index i l) k

size-met : (t : List ℕ) (i : ℕ) → SpellsIndex t i → i < 2 ^ 64 → (k : Condition) → size_meets (closed t) k ≡ true
size-met t i h l k = ap (λ o. meets is_small o k) (size-is t i h) ∙ all-met is_small (pos i) (small-index i l) k

bracket-read : (t : List ℕ) (i : ℕ) → SpellsIndex t i → i < 2 ^ 64 → brackets_from (closed t) ≡ At (pos i) ∷ []
bracket-read t i h l =
    ap (λ o. bracket_list (judged is_small_bracket o)) (bracket-is t i h)
    ∙ ap (λ (v : Bool). bracket_list (if v then Ok (At (pos i)) else Err Magnitude)) (small-index i l)

-- the brackets of a word, as parts
pub record AreRead (ps : List (List ℕ)) (is : List ℕ) : Type 0 where
  pub brackets : flat_map brackets_from ps ≡ at_each is
  pub met : (k : Condition) → all_meet bracket_meets ps k ≡ true
  pub sizes : (k : Condition) → all_meet size_meets ps k ≡ true

pub are-read : (ts : List (List ℕ)) (is : List ℕ) → SpellIndices ts is → AllByRecursion (λ i. i < 2 ^ 64) is → AreRead (map closed ts) is
are-read [] [] s l = record { brackets = refl; met = λ k. refl; sizes = λ k. refl }
are-read [] (i ∷ is) s l = absurd s
are-read (t ∷ ts) [] s l = absurd s
are-read (t ∷ ts) (i ∷ is) s l =
    let rest = are-read ts is s.1 l.1 in
    record {
      brackets = ap (λ bs. bs ++ flat_map brackets_from (map closed ts)) (bracket-read t i s.0 l.0) ∙ ap (λ bs. At (pos i) ∷ bs) rest.brackets;
      met = λ k. both (bracket_meets (closed t) k) (all_meet bracket_meets (map closed ts) k) (bracket-met t i s.0 l.0 k) (rest.met k);
      sizes = λ k. both (size_meets (closed t) k) (all_meet size_meets (map closed ts) k) (size-met t i s.0 l.0 k) (rest.sizes k);
    }

-- a byte of an identifier
pub word-byte : (c : ℕ) → is_word c ≡ true → (48 ≤ c) × ¬ (c ≡ 91)
word-byte c h = (by (cases_lt c 48), λ e. let no : is_word 91 ≡ true = subst (λ b. is_word b ≡ true) e h in cc)
  where
    low : (n : ℕ) → c < 48 → 48 ≤ n → nat_le n c ≡ false
    low n l g = lt-leb n c (omega arith)

    by : (c < 48) ⊎ (48 ≤ c) → 48 ≤ c
    by (inr l) = l
    by (inl l) =
        let no : is_word c ≡ false = rw (low 65 l (omega arith), low 97 l (omega arith), low 48 l (omega arith), ne_eqb c 95 (λ e. omega arith)) refl in
        cc

name-lacks : (n : List ℕ) → list_all is_word n ≡ true → lacks 91 n ≡ true
name-lacks [] h = refl
name-lacks (b ∷ bs) h = both (not (is_byte 91 b)) (lacks 91 bs) (not-byte 91 b (word-byte b (both-left (is_word b) (list_all is_word bs) h)).1) (name-lacks bs (both-right (is_word b) (list_all is_word bs) h))

pub identifier-words : (n : List ℕ) → IsIdentifier n → list_all is_word n ≡ true
identifier-words [] h = absurd h
identifier-words (b ∷ bs) h = ap (λ s. (s || is_digit b) && list_all is_word bs) h.0 ∙ h.1

-- a word that begins with a letter is no integer
letter-high : (b : ℕ) → is_letter b ≡ true → 58 ≤ b
letter-high b h = by (cases_lt b 58)
  where
    low : (n : ℕ) → b < 58 → 58 ≤ n → nat_le n b ≡ false
    low n l g = lt-leb n b (omega arith)

    by : (b < 58) ⊎ (58 ≤ b) → 58 ≤ b
    by (inr l) = l
    by (inl l) =
        let no : is_letter b ≡ false = rw (low 65 l (omega arith), low 97 l (omega arith), ne_eqb b 95 (λ e. omega arith)) refl in
        cc

high-no-integer : (b : ℕ) (bs : List ℕ) → 58 ≤ b → integer_of (b ∷ bs) ≡ None
high-no-integer b bs h =
    let m : (b == 45) ≡ false = ne_eqb b 45 (λ e. omega arith) in
    let p : (b == 43) ≡ false = ne_eqb b 43 (λ e. omega arith) in
    let t : nat_le b 57 ≡ false = lt-leb b 57 (omega arith) in
    let a : (nat_le 48 b && nat_le b 57) ≡ false = rw (le-leb 48 b (omega arith), t) refl in
    let some : nat_lt 0 (suc (length bs)) ≡ true = lt-ltb 0 (suc (length bs)) (omega arith) in
    rw (m, p, a, some) refl

pub no-integer : (n rest : List ℕ) → IsIdentifier n → integer_of (n ++ rest) ≡ None
no-integer [] rest h = absurd h
no-integer (b ∷ bs) rest h = high-no-integer b (bs ++ rest) (letter-high b h.0)

-- the parts of a name and brackets
pub word-parts : (n : List ℕ) (ts : List (List ℕ)) (is : List ℕ) → IsIdentifier n → SpellIndices ts is → parts (is_byte 91) (n ++ flat_map bracketed ts) ≡ n ∷ map closed ts
word-parts n ts is h s = parts-are n ts is (name-lacks n (identifier-words n h)) s

pub identifier-met : (n : List ℕ) → IsIdentifier n → (k : Condition) → identifier_meets n k ≡ true
identifier-met [] h k = absurd h
identifier-met (b ∷ bs) h Known = refl
identifier-met (b ∷ bs) h Nesting = refl
identifier-met (b ∷ bs) h Spelling = both (is_letter b) (list_all is_word bs) h.0 h.1
identifier-met (b ∷ bs) h Magnitude = refl
identifier-met (b ∷ bs) h Naming = refl
identifier-met (b ∷ bs) h Counting = refl
identifier-met (b ∷ bs) h Fitting = refl
