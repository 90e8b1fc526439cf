-- The table of states, and the list of their names.
use Rattle.std.proofs.Common.{◌≡◌, ℕ, suc, ◌+◌, ◌<◌, Bool, true, false, not, cond, ◌||◌, if◌then◌else◌, List, [], ◌∷◌, ◌++◌, length, map, nat_lt, None, Some, Result, Ok, Err, refl, ap, sym, ◌∙◌, arith}
use Rattle.std.specs.Prelude.{OnOk}
use Rattle.std.specs.List.{list_any, position, position_or_len}
use Rattle.std.specs.Str.{bytes_eq}
use borrow.Author.Tests.{ltb-true, lt-ltb}
use Rattle.xs_automata.specs.Numbers.{number_of, with_name}
use Rattle.xs_automata.proofs.NumberLemmas.{found_inside, none_at_end}

module _ {A : Type 0} (test : A → Bool) where
  pub place_some : (xs : List A) (n : ℕ) → position test xs ≡ Some n → (n ≡ position_or_len test xs) × (n < length xs)
  place_some xs n = by (nat_lt (position_or_len test xs) (length xs)) refl
    where
      by : (v : Bool) → nat_lt (position_or_len test xs) (length xs) ≡ v → cond v (Some (position_or_len test xs)) None ≡ Some n → (n ≡ position_or_len test xs) × (n < length xs)
      by true e h = let s : n ≡ position_or_len test xs = cc in (s, omega (arith, ltb-true _ _ e))
      by false e h = cc

  pub any_some : (xs : List A) (n : ℕ) → position test xs ≡ Some n → list_any test xs ≡ true
  any_some xs n h = by (list_any test xs) refl
    where
      by : (v : Bool) → list_any test xs ≡ v → v ≡ true
      by true e = refl
      by false e = let at = place_some xs n h in absurd (omega (arith, at.0, at.1, none_at_end test xs e))

  pub any_none : (xs : List A) → position test xs ≡ None → list_any test xs ≡ false
  any_none xs h = by (list_any test xs) refl
    where
      by : (v : Bool) → list_any test xs ≡ v → v ≡ false
      by true e =
          let some : position test xs ≡ Some (position_or_len test xs) = ap (λ (v : Bool). cond v (Some (position_or_len test xs)) None) (lt-ltb (position_or_len test xs) (length xs) (found_inside test xs e)) in
          let never : None ≡ Some (position_or_len test xs) = sym h ∙ some in cc
      by false e = refl

-- places in a list of images
module _ {A B : Type 0} (f : A → B) (test : B → Bool) where
  len_map : (xs : List A) → length (map f xs) ≡ length xs
  len_map [] = refl
  len_map (x ∷ xs) = ap suc (len_map xs)

  place_map : (xs : List A) → position_or_len test (map f xs) ≡ position_or_len (λ x. test (f x)) xs
  place_map [] = refl
  place_map (x ∷ xs) = ap (λ n. cond (not (test (f x))) (1 + n) 0) (place_map xs)

  pub position_map : (xs : List A) → position test (map f xs) ≡ position (λ x. test (f x)) xs
  position_map xs = ap (λ n. cond (nat_lt n (length (map f xs))) (Some n) None) (place_map xs) ∙ ap (λ n. cond (nat_lt (position_or_len (λ x. test (f x)) xs) n) (Some (position_or_len (λ x. test (f x)) xs)) None) (len_map xs)

  pub any_map : (xs : List A) → list_any test (map f xs) ≡ list_any (λ x. test (f x)) xs
  any_map [] = refl
  any_map (x ∷ xs) = ap (λ v. test (f x) || v) (any_map xs)

  pub map_snoc : (xs : List A) (y : A) → map f (xs ++ y ∷ []) ≡ map f xs ++ f y ∷ []
  map_snoc [] y = refl
  map_snoc (x ∷ xs) y = ap (λ ys. f x ∷ ys) (map_snoc xs y)

-- a name that has a place
pub known_name : (known : List (List ℕ)) (name : List ℕ) (at : ℕ) → position (bytes_eq name) known ≡ Some at → (at ≡ number_of known name) × (known ≡ with_name known name)
known_name known name at h =
    ((place_some (bytes_eq name) known at h).0, sym (ap (λ (v : Bool). if v then known else known ++ name ∷ []) (any_some (bytes_eq name) known at h)))

pub new_name : (known : List (List ℕ)) (name : List ℕ) → position (bytes_eq name) known ≡ None → (length known ≡ number_of known name) × (known ++ name ∷ [] ≡ with_name known name)
new_name known name h =
    let none = any_none (bytes_eq name) known h in
    (sym (none_at_end (bytes_eq name) known none), sym (ap (λ (v : Bool). if v then known else known ++ name ∷ []) none))

-- a new name goes last
module _ {K : Type 0} (items : K → List ℕ) where
  pub pushed : (ks new : List K) (k : K) (known : List (List ℕ)) (name : List ℕ) → map items ks ≡ known → items k ≡ name → position (bytes_eq name) known ≡ None
      → new ≡ (if list_any (λ y. bytes_eq (items k) (items y)) ks then ks else ks ++ k ∷ []) → map items new ≡ known ++ name ∷ []
  pushed ks new k known name are is none told =
      let absent : position (bytes_eq (items k)) (map items ks) ≡ None = ap (λ ns. position (bytes_eq (items k)) ns) are ∙ ap (λ n. position (bytes_eq n) known) is ∙ none in
      let last : list_any (λ y. bytes_eq (items k) (items y)) ks ≡ false = sym (any_map items (bytes_eq (items k)) ks) ∙ any_none (bytes_eq (items k)) (map items ks) absent in
      ap (map items) (told ∙ ap (λ (v : Bool). if v then ks else ks ++ k ∷ []) last) ∙ map_snoc items (bytes_eq name) ks k ∙ ap (λ ns. ns ++ items k ∷ []) are ∙ ap (λ n. known ++ n ∷ []) is

-- what holds anyway holds of what is answered
pub on_ok : {A E : Type 0} (r : Result A E) (P : Type 0) → P → OnOk r P
on_ok (Ok x) P p = p
on_ok (Err e) P p = tt
