-- The layers hold what is live, and what is accepted is reached in the last.
use Rattle.std.proofs.Common.{◌≡◌, ℕ, zero, suc, inl, inr, Bool, true, false, not, ◌&&◌, ◌||◌, List, [], ◌∷◌, length, map, refl, ap, ap₂, sym, ◌∙◌, eqb}
use Rattle.std.specs.Prelude.{filter}
use Rattle.std.specs.List.{list_any}
use Rattle.std.proofs.lemmas.Bool.{true≢false, and_parts, and_from, or_cases, eqb-true, eq-eqb}
use Rattle.std.proofs.lemmas.Bool.Decides.{Decides-eqb, same_from_decides}
use Rattle.xs_model.specs.declared.instance.Edge.{Edge}
use Rattle.xs_paths.specs.Reach.{is_live, is_reached, is_met}
use Rattle.xs_paths.specs.Layers.{once, layer, finals_of, LayerLaw, LayerReachLaw}
use Rattle.xs_laws.proofs.Somes.{any_as, any_filter}
use Rattle.xs_paths.proofs.Reach.{reached_live, met_is, accepted_is_reached}

pub any_map : {X : Type 0} (f : X → ℕ) (p : ℕ → Bool) (xs : List X) → list_any p (map f xs) ≡ list_any (λ x. p (f x)) xs
any_map f p [] = refl
any_map f p (x ∷ xs) = ap (λ (b : Bool). p (f x) || b) (any_map f p xs)

pub turned : (x y : ℕ) → eqb x y ≡ eqb y x
turned x y = same_from_decides (eqb x y) (eqb y x) (Decides-eqb x y) (λ h. sym ((Decides-eqb y x).0 h), λ e. (Decides-eqb y x).1 (sym e))

-- a test passes on one of them
pub any_at : (p : ℕ → Bool) (xs : List ℕ) → list_any p xs ≡ true → (x : ℕ) × (list_any (eqb x) xs ≡ true) × (p x ≡ true)
any_at p [] h = absurd (true≢false (sym h))
any_at p (x ∷ xs) h = elim (or_cases (p x) (list_any p xs) h) [
  | inl here ↦ (x, ap (λ (b : Bool). b || list_any (eqb x) xs) (eq-eqb x x refl), here)
  | inr later ↦ let r = any_at p xs later in (r.0, later_is (eqb r.0 x) r.1, r.2)
]
  where
    later_is : (a : Bool) {b : Bool} → b ≡ true → (a || b) ≡ true
    later_is true e = refl
    later_is false e = e

pub any_with : (p : ℕ → Bool) (xs : List ℕ) (x : ℕ) → list_any (eqb x) xs ≡ true → p x ≡ true → list_any p xs ≡ true
any_with p [] x h g = absurd (true≢false (sym h))
any_with p (y ∷ xs) x h g = elim (or_cases (eqb x y) (list_any (eqb x) xs) h) [
  | inl here ↦ ap (λ (b : Bool). b || list_any p xs) (ap p (sym (eqb-true x y here)) ∙ g)
  | inr later ↦ later_is (p y) (any_with p xs x later g)
]
  where
    later_is : (a : Bool) {b : Bool} → b ≡ true → (a || b) ≡ true
    later_is true e = refl
    later_is false e = e

-- the same members
pub once_is : (q : ℕ) (qs : List ℕ) → list_any (eqb q) (once qs) ≡ list_any (eqb q) qs
once_is q [] = refl
once_is q (p ∷ qs) =
    ap (λ (b : Bool). eqb q p || b) (any_filter (λ r. not (eqb p r)) (eqb q) (λ r. not (eqb p r) && eqb q r) (λ r. refl) (once qs))
    ∙ by (eqb q p) refl (once_is q qs)
  where
    other : (r : ℕ) → eqb q p ≡ false → (not (eqb p r) && eqb q r) ≡ eqb q r
    other r ne = cases (eqb p r) (eqb q r) (λ a b. true≢false (sym (eq-eqb q p (eqb-true q r b ∙ sym (eqb-true p r a))) ∙ ne))
      where
        cases : (a b : Bool) → (a ≡ true → b ≡ true → ⊥) → (not a && b) ≡ b
        cases true true f = absurd (f refl refl)
        cases true false f = refl
        cases false b f = refl

    by : (t : Bool) → eqb q p ≡ t → list_any (eqb q) (once qs) ≡ list_any (eqb q) qs → (t || list_any (λ r. not (eqb p r) && eqb q r) (once qs)) ≡ (t || list_any (eqb q) qs)
    by true e rest = refl
    by false e rest = any_as (λ r. not (eqb p r) && eqb q r) (eqb q) (λ r. other r e) (once qs) ∙ rest

pub layer_is_live : LayerLaw
layer_is_live edges start zero q = alone (eqb q start)
  where
    alone : (b : Bool) → (b || false) ≡ b
    alone true = refl
    alone false = refl
layer_is_live edges start (suc i) q =
    let f : Edge → Bool = λ e. list_any (eqb e.from) (layer edges start i) in
    once_is q (map (λ e. e.to) (filter f edges))
    ∙ any_map (λ (e : Edge). e.to) (eqb q) (filter f edges)
    ∙ any_filter f (λ (e : Edge). eqb q e.to) (λ (e : Edge). eqb e.to q && is_live edges start i e.from)
    (λ e. ap₂ (λ (a b : Bool). a && b) (turned e.to q) (sym (layer_is_live edges start i e.from)) ∙ swapped (eqb q e.to) (f e)) edges
  where
    swapped : (a b : Bool) → (a && b) ≡ (b && a)
    swapped true true = refl
    swapped true false = refl
    swapped false true = refl
    swapped false false = refl

pub accepted_in_layer : LayerReachLaw
accepted_in_layer edges start finals xs =
    let n = length xs in
    let law = accepted_is_reached edges start finals xs in
    let final : ℕ → Bool = λ q. list_any (eqb q) finals in
    let kept : list_any (is_met edges start xs n) (finals_of finals (layer edges start n)) ≡ list_any (λ q. final q && is_reached edges start xs n q) (layer edges start n) =
    any_filter final (is_met edges start xs n) (λ q. final q && is_reached edges start xs n q) (λ q. ap (λ (b : Bool). final q && b) (sym (met_is edges start xs n q))) (layer edges start n) in (
      λ h.
          let r = any_at (is_reached edges start xs n) finals (law.0 h) in
          kept ∙ any_with (λ q. final q && is_reached edges start xs n q) (layer edges start n) r.0
          (layer_is_live edges start n r.0 ∙ reached_live edges start xs n r.0 r.2) (and_from (final r.0) (is_reached edges start xs n r.0) r.1 r.2),
      λ h.
          let r = any_at (λ q. final q && is_reached edges start xs n q) (layer edges start n) (sym kept ∙ h) in
          let b = and_parts (final r.0) (is_reached edges start xs n r.0) r.2 in
          law.1 (any_with (is_reached edges start xs n) finals r.0 b.0 b.1),
    )
