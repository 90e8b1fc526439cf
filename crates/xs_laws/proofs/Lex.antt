-- Lexicographic order is a chain.
use Rattle.std.proofs.Common.{◌≡◌, ◌↔◌, ℕ, zero, suc, ◌⊎◌, inl, inr, ℤ, ◌≤ℤ◌, Bool, true, false, ◌&&◌, List, [], ◌∷◌, length, map, refl, ap, ap₂, sym, ◌∙◌, arith}
use Rattle.std.specs.List.{AllByRecursion, range_with_len}
use Rattle.std.specs.Ordering.{int_eq}
use Rattle.std.proofs.lemmas.Bool.{true≢false, cases_Bool, and_parts, and_from}
use Rattle.std.proofs.lemmas.Bool.Decides.{Decides-int_eq}
use Rattle.std.proofs.lemmas.Int.{ints}
use Rattle.xs_model.specs.declared.term.Rel.{Rel}
use Rattle.xs_model.specs.Comparing.{IsBelow, InLexOrder, IsLexOrdered}
use Rattle.xs_model.specs.declared.term.Rel.TheVariants.{Lt, Le, Ge, Gt}
use Rattle.xs_model.specs.Lists.{Consecutive, width, column, columns}
use Rattle.xs_model.specs.Value.{at}
use Rattle.xs_laws.specs.Chain.{equal_before, IsChain, IsChained, LexLaw, LexListsLaw}

-- from the front
pub front : (x y : ℤ) (xs ys : List ℤ) (j : ℕ) → equal_before (x ∷ xs) (y ∷ ys) (suc j) ≡ (int_eq x y && equal_before xs ys j)
front x y xs ys zero = by (int_eq x y)
  where
    by : (b : Bool) → (true && b) ≡ (b && true)
    by true = refl
    by false = refl
front x y xs ys (suc j) = ap (λ (b : Bool). b && int_eq (at xs j) (at ys j)) (front x y xs ys j) ∙ assoc (int_eq x y) (equal_before xs ys j) (int_eq (at xs j) (at ys j))
  where
    assoc : (a b c : Bool) → ((a && b) && c) ≡ (a && (b && c))
    assoc true b c = refl
    assoc false b c = refl

all_before : (xs : List ℤ) (j : ℕ) → equal_before xs xs j ≡ true
all_before xs zero = refl
all_before xs (suc j) = and_from (equal_before xs xs j) (int_eq (at xs j) (at xs j)) (all_before xs j) ((Decides-int_eq (at xs j) (at xs j)).1 refl)

chain_same : (xs ys : List ℤ) → xs ≡ ys → IsChain xs ys
chain_same xs ys e j lt h = let k = ap (λ (zs : List ℤ). at zs j) e in omega (arith, ints, k)

chain_below : (xs ys : List ℤ) → IsBelow xs ys → IsChain xs ys
chain_below [] ys b j lt h = absurd b
chain_below (x ∷ xs) [] b j lt h = absurd b
chain_below (x ∷ xs) (y ∷ ys) (inl l) zero lt h = omega (arith, ints, l)
chain_below (x ∷ xs) (y ∷ ys) (inr r) zero lt h = let k = r.0 in omega (arith, ints, k)
chain_below (x ∷ xs) (y ∷ ys) (inl l) (suc j) lt h =
    let k = (Decides-int_eq x y).0 (and_parts (int_eq x y) (equal_before xs ys j) (sym (front x y xs ys j) ∙ h)).0 in absurd (omega (arith, ints, k, l))
chain_below (x ∷ xs) (y ∷ ys) (inr r) (suc j) lt h =
    chain_below xs ys r.1 j (omega arith) (and_parts (int_eq x y) (equal_before xs ys j) (sym (front x y xs ys j) ∙ h)).1

unequal_below : (xs ys : List ℤ) → IsBelow xs ys → equal_before xs ys (length xs) ≡ false
unequal_below [] ys b = absurd b
unequal_below (x ∷ xs) [] b = absurd b
unequal_below (x ∷ xs) (y ∷ ys) (inl l) = front x y xs ys (length xs) ∙ by (int_eq x y) (λ e. let k = (Decides-int_eq x y).0 e in absurd (omega (arith, ints, k, l)))
  where
    by : (t : Bool) → (t ≡ true → ⊥) → (t && equal_before xs ys (length xs)) ≡ false
    by true f = absurd (f refl)
    by false f = refl
unequal_below (x ∷ xs) (y ∷ ys) (inr r) = front x y xs ys (length xs) ∙ by (int_eq x y) (unequal_below xs ys r.1)
  where
    by : (t : Bool) → equal_before xs ys (length xs) ≡ false → (t && equal_before xs ys (length xs)) ≡ false
    by true e = e
    by false e = refl

ordered_of : (xs ys : List ℤ) → length xs ≡ length ys → IsChain xs ys → (xs ≡ ys) ⊎ IsBelow xs ys
ordered_of [] [] many h = inl refl
ordered_of [] (y ∷ ys) many h = absurd (omega arith)
ordered_of (x ∷ xs) [] many h = absurd (omega arith)
ordered_of (x ∷ xs) (y ∷ ys) many h =
    let first : x ≤ℤ y = h 0 (omega arith) refl in
    elim (cases_Bool (int_eq x y)) [
      | inl e ↦
          let same = (Decides-int_eq x y).0 e in
          elim (ordered_of xs ys (omega arith) (λ j lt g. h (suc j) (omega arith) (front x y xs ys j ∙ and_from (int_eq x y) (equal_before xs ys j) e g))) [
            | inl rest ↦ inl (ap₂ (λ (z : ℤ) (zs : List ℤ). z ∷ zs) same rest)
            | inr rest ↦ inr (inr (same, rest))
          ]
      | inr ne ↦ inr (inl (let k : x ≡ y → ⊥ = λ e. true≢false (sym ((Decides-int_eq x y).1 e) ∙ ne) in omega (arith, ints, k)))
    ]

pub at_most_is_chain : (xs ys : List ℤ) → length xs ≡ length ys → ((xs ≡ ys) ⊎ IsBelow xs ys) ↔ IsChain xs ys
at_most_is_chain xs ys many = (λ h. elim h [ inl e ↦ chain_same xs ys e | inr b ↦ chain_below xs ys b ], λ h. ordered_of xs ys many h)

pub below_is_chain : (xs ys : List ℤ) → length xs ≡ length ys → IsBelow xs ys ↔ (IsChain xs ys × (equal_before xs ys (length xs) ≡ false))
below_is_chain xs ys many = (
  λ b. (chain_below xs ys b, unequal_below xs ys b),
  λ h. elim (ordered_of xs ys many h.0) [
    | inl e ↦ absurd (true≢false (sym (all_before xs (length xs)) ∙ ap (λ (zs : List ℤ). equal_before xs zs (length xs)) e ∙ h.1))
    | inr b ↦ b
  ],
)

pub lex_is_chain : LexLaw
lex_is_chain Lt xs ys many = below_is_chain xs ys many
lex_is_chain Le xs ys many = at_most_is_chain xs ys many
lex_is_chain Ge xs ys many = let law = at_most_is_chain ys xs (sym many) in
    (λ h. law.0 (elim h [ inl e ↦ inl (sym e) | inr b ↦ inr b ]), λ h. elim (law.1 h) [ inl e ↦ inl (sym e) | inr b ↦ inr b ])
lex_is_chain Gt xs ys many = below_is_chain ys xs (sym many)

-- neighbours
pub consecutive_map : (R S : List ℤ → List ℤ → Type 0) (n : ℕ) (lists : List (List ℤ)) → ((xs ys : List ℤ) → length xs ≡ n → length ys ≡ n → R xs ys → S xs ys) → AllByRecursion (λ xs. length xs ≡ n) lists
    → Consecutive R lists → Consecutive S lists
consecutive_map R S n [] f all h = tt
consecutive_map R S n (xs ∷ []) f all h = tt
consecutive_map R S n (xs ∷ ys ∷ lists) f all h = (f xs ys all.0 all.1.0 h.0, consecutive_map R S n (ys ∷ lists) f all.1 h.1)

pub neighbours : (rel : Rel) (n : ℕ) (lists : List (List ℤ)) → AllByRecursion (λ xs. length xs ≡ n) lists → IsLexOrdered rel lists ↔ Consecutive (IsChained rel) lists
neighbours rel n lists all = (
  λ h. consecutive_map (InLexOrder rel) (IsChained rel) n lists (λ xs ys a b. (lex_is_chain rel xs ys (a ∙ sym b)).0) all h,
  λ h. consecutive_map (IsChained rel) (InLexOrder rel) n lists (λ xs ys a b. (lex_is_chain rel xs ys (a ∙ sym b)).1) all h,
)

long_column : (rows : List (List ℤ)) (j : ℕ) → length (column rows j) ≡ length rows
long_column [] j = refl
long_column (r ∷ rows) j = ap suc (long_column rows j)

pub long_columns : (rows : List (List ℤ)) (js : List ℕ) → AllByRecursion (λ xs. length xs ≡ length rows) (map (column rows) js)
long_columns rows [] = tt
long_columns rows (j ∷ js) = (long_column rows j, long_columns rows js)

pub lists_are_chains : LexListsLaw
lists_are_chains rel n lists all =
    let rows = neighbours rel n lists all in
    let across = neighbours rel (length lists) (columns lists) (long_columns lists (range_with_len 0 (width lists))) in
    (rows, (λ h. (rows.0 h.0, across.0 h.1), λ h. (rows.1 h.0, across.1 h.1)))
