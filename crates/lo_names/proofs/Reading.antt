-- A name is read back as the direct word that it spells.
use Rattle.std.proofs.Common.{◌≡◌, ℕ, ◌==◌, ◌⊎◌, inl, inr, Bool, true, false, ◌&&◌, if◌then◌else◌, List, [], ◌∷◌, ◌++◌, drop, refl, ap, sym, subst, ◌∙◌, arith, append_assoc, append-nil, codes, ⊎_elim}
use Rattle.std.specs.List.{AllByRecursion, flat_map, list_all}
use Rattle.std.proofs.lemmas.Bool.{eqb-true}
use Rattle.std.proofs.lemmas.Grind.{flat_map-append}
use Rattle.xs_model.specs.Identifier.{IsIdentifier, is_digit, is_letter, is_word}
use Rattle.lo_names.specs.Spelling.{spelled_byte, spelled, IsIndex, IsDirectWord, IsInjectiveOnWords}

-- outside of brackets, behind one `_`, inside of brackets
data State : Type 0 where
  Plain : State
  Mark : State
  Inside : State

abbrev read : State → List ℕ → List ℕ
read Plain [] = []
read Mark [] = []
read Inside [] = 93 ∷ []
read Plain (b ∷ bs) = if b == 95 then read Mark bs else b ∷ read Plain bs
read Mark (b ∷ bs) = if b == 95 then 95 ∷ read Plain bs else 91 ∷ b ∷ read Inside bs
read Inside (b ∷ bs) = if b == 95 then 93 ∷ 91 ∷ read Inside bs else b ∷ read Inside bs

pub either : (t : Bool) → (t ≡ true) ⊎ (t ≡ false)
either true = inl refl
either false = inr refl

pub both : (s t : Bool) → (s && t) ≡ true → (s ≡ true) × (t ≡ true)
both true true h = (refl, refl)
both true false h = (refl, h)
both false t h = cc

-- where a test tells two bytes apart, they differ
pub apart : (p : ℕ → Bool) (b k : ℕ) → p b ≡ true → p k ≡ false → (b == k) ≡ false
apart p b k one other = ⊎_elim (λ e. let same : b ≡ k = eqb-true b k e in let wrong : p k ≡ true = subst (λ (x : ℕ). p x ≡ true) same one in cc) (λ t. t) (either (b == k))

pub same_byte : (b : ℕ) → (b == 95) ≡ false → (b == 91) ≡ false → (b == 93) ≡ false → spelled_byte b ≡ b ∷ []
same_byte b e f g = rw (e, f, g) refl

digit_byte : (b : ℕ) → is_digit b ≡ true → spelled_byte b ≡ b ∷ []
digit_byte b h = same_byte b (apart is_digit b 95 h refl) (apart is_digit b 91 h refl) (apart is_digit b 93 h refl)

pub digits_same : (ds : List ℕ) → list_all is_digit ds ≡ true → flat_map spelled_byte ds ≡ ds
digits_same [] h = refl
digits_same (d ∷ ds) h =
    let p = both (is_digit d) (list_all is_digit ds) h in
    ap (λ xs. xs ++ flat_map spelled_byte ds) (digit_byte d p.0) ∙ ap (λ xs. d ∷ xs) (digits_same ds p.1)

word_byte : (b : ℕ) (rest : List ℕ) → is_word b ≡ true → read Plain (spelled_byte b ++ rest) ≡ b ∷ read Plain rest
word_byte b rest h = ⊎_elim
    (λ e. subst (λ (x : ℕ). read Plain (spelled_byte x ++ rest) ≡ x ∷ read Plain rest) (sym (eqb-true b 95 e)) refl)
    (λ no. ap (λ xs. read Plain (xs ++ rest)) (same_byte b no (apart is_word b 91 h refl) (apart is_word b 93 h refl)) ∙ rw no refl)
    (either (b == 95))

-- the name of a word, in front of what its brackets are read from
read_name : (name rest : List ℕ) → list_all is_word name ≡ true → read Plain (flat_map spelled_byte name ++ rest) ≡ name ++ read Plain rest
read_name [] rest h = refl
read_name (b ∷ bs) rest h =
    let p = both (is_word b) (list_all is_word bs) h in
    ap (read Plain) (append_assoc (spelled_byte b) (flat_map spelled_byte bs) rest)
    ∙ word_byte b (flat_map spelled_byte bs ++ rest) p.0
    ∙ ap (λ xs. b ∷ xs) (read_name bs rest p.1)

read_digits : (ds rest : List ℕ) → list_all is_digit ds ≡ true → read Inside (ds ++ rest) ≡ ds ++ read Inside rest
read_digits [] rest h = refl
read_digits (d ∷ ds) rest h =
    let p = both (is_digit d) (list_all is_digit ds) h in
    let no : (d == 95) ≡ false = apart is_digit d 95 p.0 refl in
    rw no (ap (λ xs. d ∷ xs) (read_digits ds rest p.1))

abbrev pub brackets : List (List ℕ) → List ℕ
brackets indices = flat_map (λ ds. codes "[" ++ (ds ++ codes "]")) indices

abbrev pub marks : List (List ℕ) → List ℕ
marks [] = []
marks (ds ∷ indices) = 95 ∷ (ds ++ marks indices)

-- brackets are spelled as a mark before each index
pub marked : (indices : List (List ℕ)) → AllByRecursion IsIndex indices → flat_map spelled_byte (brackets indices) ≡ marks indices
marked [] h = refl
marked (ds ∷ indices) h =
    flat_map-append spelled_byte (91 ∷ (ds ++ 93 ∷ [])) (brackets indices)
    ∙ ap (λ xs. (95 ∷ xs) ++ flat_map spelled_byte (brackets indices)) (flat_map-append spelled_byte ds (93 ∷ []) ∙ append-nil (flat_map spelled_byte ds) ∙ digits_same ds h.0.1)
    ∙ ap (λ xs. (95 ∷ ds) ++ xs) (marked indices h.1)

read_inside : (indices : List (List ℕ)) → AllByRecursion IsIndex indices → read Inside (marks indices) ≡ 93 ∷ brackets indices
read_inside [] h = refl
read_inside (ds ∷ indices) h =
    ap (λ xs. 93 ∷ 91 ∷ xs) (read_digits ds (marks indices) h.0.1 ∙ ap (λ xs. ds ++ xs) (read_inside indices h.1) ∙ sym (append_assoc ds (93 ∷ []) (brackets indices)))

read_first : (ds rest : List ℕ) → IsIndex ds → read Mark (ds ++ rest) ≡ 91 ∷ (ds ++ read Inside rest)
read_first [] rest h = absurd (omega (arith, h.0))
read_first (d ∷ ds) rest h =
    let p = both (is_digit d) (list_all is_digit ds) h.1 in
    let no : (d == 95) ≡ false = apart is_digit d 95 p.0 refl in
    rw no (ap (λ xs. 91 ∷ d ∷ xs) (read_digits ds rest p.1))

read_brackets : (indices : List (List ℕ)) → AllByRecursion IsIndex indices → read Plain (marks indices) ≡ brackets indices
read_brackets [] h = refl
read_brackets (ds ∷ indices) h =
    read_first ds (marks indices) h.0
    ∙ ap (λ xs. 91 ∷ (ds ++ xs)) (read_inside indices h.1)
    ∙ ap (λ xs. 91 ∷ xs) (sym (append_assoc ds (93 ∷ []) (brackets indices)))

letter_word : (b : ℕ) → is_letter b ≡ true → is_word b ≡ true
letter_word b h = rw h refl

pub all_word : (name : List ℕ) → IsIdentifier name → list_all is_word name ≡ true
all_word [] h = absurd h
all_word (b ∷ bs) h = let first : is_word b ≡ true = letter_word b h.0 in rw (first, h.1) refl

-- the word that a name spells
abbrev word_of : List ℕ → List ℕ
word_of name = read Plain (drop 2 name)

read_back : (word : List ℕ) → IsDirectWord word → word_of (spelled word) ≡ word
read_back word d =
    ap (λ xs. read Plain (flat_map spelled_byte xs)) d.whole
    ∙ ap (read Plain) (flat_map-append spelled_byte d.name (brackets d.indices) ∙ ap (λ xs. flat_map spelled_byte d.name ++ xs) (marked d.indices d.each))
    ∙ read_name d.name (marks d.indices) (all_word d.name d.identifier)
    ∙ ap (λ xs. d.name ++ xs) (read_brackets d.indices d.each)
    ∙ sym d.whole

pub injective : IsInjectiveOnWords
injective v w dv dw same = sym (read_back v dv) ∙ ap word_of same ∙ read_back w dw
