-- Lexicographic order is a chain that is carried along.
use Rattle.std.proofs.Common.{◌≡◌, ◌↔◌, ℕ, ◌⊎◌, inl, inr, ℤ, ◌≤ℤ◌, ◌<ℤ◌, Bool, true, false, List, [], ◌∷◌, length, refl, ap₂, sym, ◌∙◌, subst, arith}
use Rattle.std.specs.List.{AllByRecursion, range_with_len}
use Rattle.std.specs.Ordering.{int_eq}
use Rattle.std.proofs.lemmas.Int.{ints}
use Rattle.std.proofs.lemmas.Bool.{true≢false, cases_Bool}
use Rattle.std.proofs.lemmas.Bool.Decides.{Decides-int_eq}
use Rattle.xs_model.specs.declared.term.Rel.{Rel}
use Rattle.xs_model.specs.declared.term.Rel.TheVariants.{Lt, Le, Ge, Gt}
use Rattle.xs_model.specs.Comparing.{IsBelow, InLexOrder, IsLexOrdered}
use Rattle.xs_model.specs.Lists.{width, columns}
use Rattle.xs_laws.specs.Chain.{IsChainFrom, IsLexChain, LexChainLaw, AreLexChains, LexChainsLaw}
use Rattle.xs_laws.proofs.Lex.{consecutive_map, long_columns}

-- a chain that is broken asks nothing more
broken : (strict : Bool) (xs ys : List ℤ) → IsChainFrom strict false xs ys
broken strict [] ys = λ s. refl
broken strict (x ∷ xs) [] = tt
broken strict (x ∷ xs) (y ∷ ys) = (λ h. absurd (true≢false (sym h)), broken strict xs ys)

module _ (x y : ℤ) where
  differ : int_eq x y ≡ false → x ≡ y → ⊥
  differ h e = true≢false (sym ((Decides-int_eq x y).1 e) ∙ h)

  chain_on : (strict : Bool) (xs ys : List ℤ) → x ≤ℤ y → (x ≡ y → IsChainFrom strict true xs ys) → IsChainFrom strict true (x ∷ xs) (y ∷ ys)
  chain_on strict xs ys le h = (λ t. le, by (int_eq x y) refl)
    where
      by : (t : Bool) → int_eq x y ≡ t → IsChainFrom strict t xs ys
      by true e = h ((Decides-int_eq x y).0 e)
      by false e = broken strict xs ys

  chain_off : (strict : Bool) (xs ys : List ℤ) → IsChainFrom strict true (x ∷ xs) (y ∷ ys) → (x <ℤ y) ⊎ ((x ≡ y) × IsChainFrom strict true xs ys)
  chain_off strict xs ys h = elim (cases_Bool (int_eq x y)) [
    | inl e ↦ inr ((Decides-int_eq x y).0 e, subst (λ (t : Bool). IsChainFrom strict t xs ys) e h.1)
    | inr ne ↦ inl (let le = h.0 refl in let k = differ ne in omega (arith, ints, le, k))
  ]

below_chain : (strict : Bool) (xs ys : List ℤ) → IsBelow xs ys → IsChainFrom strict true xs ys
below_chain strict [] ys b = absurd b
below_chain strict (x ∷ xs) [] b = absurd b
below_chain strict (x ∷ xs) (y ∷ ys) (inl l) = chain_on x y strict xs ys (omega (arith, ints, l)) (λ e. absurd (omega (arith, ints, l, e)))
below_chain strict (x ∷ xs) (y ∷ ys) (inr r) = let e = r.0 in chain_on x y strict xs ys (omega (arith, ints, e)) (λ s. below_chain strict xs ys r.1)

same_chain : (xs : List ℤ) → IsChainFrom false true xs xs
same_chain [] = λ s. absurd (true≢false (sym s))
same_chain (x ∷ xs) = chain_on x x false xs xs (omega (arith, ints)) (λ e. same_chain xs)

chain_lex : (strict : Bool) (xs ys : List ℤ) → length xs ≡ length ys → IsChainFrom strict true xs ys → ((strict ≡ false) × (xs ≡ ys)) ⊎ IsBelow xs ys
chain_lex true [] [] many h = absurd (true≢false (h refl))
chain_lex false [] [] many h = inl (refl, refl)
chain_lex strict [] (y ∷ ys) many h = absurd (omega arith)
chain_lex strict (x ∷ xs) [] many h = absurd (omega arith)
chain_lex strict (x ∷ xs) (y ∷ ys) many h = elim (chain_off x y strict xs ys h) [
  | inl l ↦ inr (inl l)
  | inr r ↦ elim (chain_lex strict xs ys (omega arith) r.1) [
    | inl s ↦ inl (s.0, ap₂ (λ (z : ℤ) (zs : List ℤ). z ∷ zs) r.0 s.1)
    | inr b ↦ inr (inr (r.0, b))
  ]
]

strictly : (xs ys : List ℤ) → length xs ≡ length ys → IsBelow xs ys ↔ IsChainFrom true true xs ys
strictly xs ys many = (below_chain true xs ys, λ h. elim (chain_lex true xs ys many h) [ inl s ↦ absurd (true≢false s.0) | inr b ↦ b ])

weakly : (xs ys : List ℤ) → length xs ≡ length ys → ((xs ≡ ys) ⊎ IsBelow xs ys) ↔ IsChainFrom false true xs ys
weakly xs ys many = (
  λ h. elim h [ inl e ↦ subst (λ (zs : List ℤ). IsChainFrom false true xs zs) e (same_chain xs) | inr b ↦ below_chain false xs ys b ],
  λ h. elim (chain_lex false xs ys many h) [ inl s ↦ inl s.1 | inr b ↦ inr b ],
)

pub lex_is_carried : LexChainLaw
lex_is_carried Lt xs ys many = strictly xs ys many
lex_is_carried Le xs ys many = weakly xs ys many
lex_is_carried Ge xs ys many = let law = weakly ys xs (sym many) in
    (λ h. law.0 (elim h [ inl e ↦ inl (sym e) | inr b ↦ inr b ]), λ h. elim (law.1 h) [ inl e ↦ inl (sym e) | inr b ↦ inr b ])
lex_is_carried Gt xs ys many = strictly ys xs (sym many)

carried_neighbours : (rel : Rel) (n : ℕ) (lists : List (List ℤ)) → AllByRecursion (λ xs. length xs ≡ n) lists → IsLexOrdered rel lists ↔ AreLexChains rel lists
carried_neighbours rel n lists all = (
  λ h. consecutive_map (InLexOrder rel) (IsLexChain rel) n lists (λ xs ys a b. (lex_is_carried rel xs ys (a ∙ sym b)).0) all h,
  λ h. consecutive_map (IsLexChain rel) (InLexOrder rel) n lists (λ xs ys a b. (lex_is_carried rel xs ys (a ∙ sym b)).1) all h,
)

pub lists_are_carried : LexChainsLaw
lists_are_carried rel n lists all =
    let rows = carried_neighbours rel n lists all in
    let across = carried_neighbours rel (length lists) (columns lists) (long_columns lists (range_with_len 0 (width lists))) in
    (rows, (λ h. (rows.0 h.0, across.0 h.1), λ h. (rows.1 h.0, across.1 h.1)))
