-- Some of a list, and the test that finds it.
use Rattle.std.proofs.Common.{◌≡◌, inl, inr, Bool, true, false, ◌&&◌, ◌||◌, List, [], ◌∷◌, refl, ap, ap₂, sym, ◌∙◌}
use Rattle.std.specs.Prelude.{filter}
use Rattle.std.specs.List.{AllByRecursion, list_any, list_all}
use Rattle.std.proofs.lemmas.Bool.{true≢false, cases_Bool, and_parts, and_from, or_cases}
use Rattle.xs_model.specs.Lists.{SomeOf}

pub some_map : {X : Type 0} (P Q : X → Type 0) (xs : List X) → ((x : X) → P x → Q x) → SomeOf P xs → SomeOf Q xs
some_map P Q [] f h = h
some_map P Q (x ∷ xs) f (inl h) = inl (f x h)
some_map P Q (x ∷ xs) f (inr h) = inr (some_map P Q xs f h)

pub some_with : {X : Type 0} (P : X → Type 0) (xs : List X) → SomeOf P xs → (x : X) × P x × SomeOf (λ y. y ≡ x) xs
some_with P [] h = absurd h
some_with P (x ∷ xs) (inl h) = (x, h, inl refl)
some_with P (x ∷ xs) (inr h) = let r = some_with P xs h in (r.0, r.1, inr r.2)

pub some_from_any : {X : Type 0} (p : X → Bool) (xs : List X) → list_any p xs ≡ true → SomeOf (λ x. p x ≡ true) xs
some_from_any p [] h = absurd (true≢false (sym h))
some_from_any p (x ∷ xs) h = elim (or_cases (p x) (list_any p xs) h) [ inl here ↦ inl here | inr later ↦ inr (some_from_any p xs later) ]

pub any_from_some : {X : Type 0} (p : X → Bool) (xs : List X) → SomeOf (λ x. p x ≡ true) xs → list_any p xs ≡ true
any_from_some p [] h = absurd h
any_from_some p (x ∷ xs) (inl h) = ap (λ (b : Bool). b || list_any p xs) h
any_from_some p (x ∷ xs) (inr h) = by (p x) (any_from_some p xs h)
  where
    by : (b : Bool) → list_any p xs ≡ true → (b || list_any p xs) ≡ true
    by true e = refl
    by false e = e

pub all_map : {X : Type 0} (P Q : X → Type 0) (xs : List X) → ((x : X) → P x → Q x) → AllByRecursion P xs → AllByRecursion Q xs
all_map P Q [] f h = tt
all_map P Q (x ∷ xs) f h = (f x h.0, all_map P Q xs f h.1)

pub all_says : {X : Type 0} (p : X → Bool) (xs : List X) → list_all p xs ≡ true → AllByRecursion (λ x. p x ≡ true) xs
all_says p [] h = tt
all_says p (x ∷ xs) h = let r = and_parts (p x) (list_all p xs) h in (r.0, all_says p xs r.1)

pub all_met : {X : Type 0} (p : X → Bool) (xs : List X) → AllByRecursion (λ x. p x ≡ true) xs → list_all p xs ≡ true
all_met p [] h = refl
all_met p (x ∷ xs) h = and_from (p x) (list_all p xs) h.0 (all_met p xs h.1)

-- two tests that agree
pub any_as : {X : Type 0} (p q : X → Bool) → ((x : X) → p x ≡ q x) → (xs : List X) → list_any p xs ≡ list_any q xs
any_as p q h [] = refl
any_as p q h (x ∷ xs) = ap₂ (λ (a b : Bool). a || b) (h x) (any_as p q h xs)

-- the test on what a filter keeps
pub any_filter : {X : Type 0} (f p r : X → Bool) → ((x : X) → r x ≡ (f x && p x)) → (xs : List X) → list_any p (filter f xs) ≡ list_any r xs
any_filter f p r h [] = refl
any_filter f p r h (x ∷ xs) = elim (cases_Bool (f x)) [
  | inl kept ↦ rw kept (ap₂ (λ (a b : Bool). a || b) (sym (h x ∙ ap (λ (b : Bool). b && p x) kept)) (any_filter f p r h xs))
  | inr dropped ↦ rw dropped (any_filter f p r h xs ∙ ap (λ (b : Bool). b || list_any r xs) (sym (h x ∙ ap (λ (b : Bool). b && p x) dropped)))
]
