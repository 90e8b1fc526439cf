-- How states are numbered.
use Rattle.std.proofs.Common.{◌≡◌, ℕ, suc, ◌+◌, ◌<◌, ◌≤◌, ◌⊎◌, inl, inr, Bool, true, false, not, cond, ◌||◌, if◌then◌else◌, List, [], ◌∷◌, ◌++◌, length, refl, ap, sym, subst, arith, length-append}
use Rattle.std.specs.List.{AllByRecursion, list_any, position_or_len}
use Rattle.std.specs.Str.{bytes_eq}
use Rattle.xs_automata.specs.Numbers.{edge_of, edges_from, number_of, numbers_from, with_name, with_step, with_steps}
use Rattle.xs_automata.specs.Transitions.{Step}
use Rattle.xs_model.specs.Fitting.{AreNumberedFrom, ends_of}
use Rattle.xs_model.specs.declared.instance.Edge.{Edge}

-- a test finds something where its place is inside
module _ {A : Type 0} (test : A → Bool) where
  place_more : (x : A) (xs : List A) → position_or_len test (x ∷ xs) ≡ cond (not (test x)) (1 + position_or_len test xs) 0
  place_more x xs = refl

  pub found_inside : (xs : List A) → list_any test xs ≡ true → position_or_len test xs < length xs
  found_inside [] h = cc
  found_inside (x ∷ xs) h = by (test x) (found_inside xs) h
    where
      by : (v : Bool) → (list_any test xs ≡ true → position_or_len test xs < length xs) → (v || list_any test xs) ≡ true → cond (not v) (1 + position_or_len test xs) 0 < suc (length xs)
      by true rest g = omega arith
      by false rest g = omega (arith, rest g)

  pub none_at_end : (xs : List A) → list_any test xs ≡ false → position_or_len test xs ≡ length xs
  none_at_end [] h = refl
  none_at_end (x ∷ xs) h = by (test x) (none_at_end xs) h
    where
      by : (v : Bool) → (list_any test xs ≡ false → position_or_len test xs ≡ length xs) → (v || list_any test xs) ≡ false → cond (not v) (1 + position_or_len test xs) 0 ≡ suc (length xs)
      by true rest g = cc
      by false rest g = omega (arith, rest g)

-- a state that is known has its place, and another comes behind the others
pub record IsKnown (known : List (List ℕ)) (name : List ℕ) : Type 0 where
  pub below : number_of known name < length known
  pub stays : with_name known name ≡ known

pub record IsNew (known : List (List ℕ)) (name : List ℕ) : Type 0 where
  pub next : number_of known name ≡ length known
  pub grows : with_name known name ≡ known ++ name ∷ []

pub known_or_new : (known : List (List ℕ)) (name : List ℕ) → IsKnown known name ⊎ IsNew known name
known_or_new known name = by (list_any (bytes_eq name) known) refl
  where
    by : (v : Bool) → list_any (bytes_eq name) known ≡ v → IsKnown known name ⊎ IsNew known name
    by true e = inl (record { below = found_inside (bytes_eq name) known e; stays = ap (λ (w : Bool). if w then known else known ++ name ∷ []) e })
    by false e = inr (record { next = none_at_end (bytes_eq name) known e; grows = ap (λ (w : Bool). if w then known else known ++ name ∷ []) e })

one_longer : (known : List (List ℕ)) (name : List ℕ) → length (known ++ name ∷ []) ≡ length known + 1
one_longer known name = omega (arith, length-append known (name ∷ []))

-- the number of a state is below how many are known then
pub number_below : (known : List (List ℕ)) (name : List ℕ) → number_of known name < length (with_name known name)
number_below known name = elim (known_or_new known name) [
  | inl k ↦ subst (λ ks. number_of known name < length ks) (sym k.stays) k.below
  | inr n ↦ subst (λ ks. number_of known name < length ks) (sym n.grows) (omega (arith, n.next, one_longer known name))
]

pub name_grows : (known : List (List ℕ)) (name : List ℕ) → length known ≤ length (with_name known name)
name_grows known name = elim (known_or_new known name) [
  | inl k ↦ subst (λ ks. length known ≤ length ks) (sym k.stays) (omega arith)
  | inr n ↦ subst (λ ks. length known ≤ length ks) (sym n.grows) (omega (arith, one_longer known name))
]

pub steps_grow : (known : List (List ℕ)) (ss : List Step) → length known ≤ length (with_steps known ss)
steps_grow known [] = omega arith
steps_grow known (s ∷ ss) = omega (arith, name_grows known s.from, name_grows (with_name known s.from) s.to, steps_grow (with_step known s) ss)

-- so are the states of transitions
abbrev pub AreBelow : ℕ → List Edge → Type 0
AreBelow n edges = AllByRecursion (λ e. e.from < n) edges × AllByRecursion (λ e. e.to < n) edges

pub edges_below : (known : List (List ℕ)) (ss : List Step) → AreBelow (length (with_steps known ss)) (edges_from known ss)
edges_below known [] = (tt, tt)
edges_below known (s ∷ ss) =
    let rest = edges_below (with_step known s) ss in
    let last = steps_grow (with_step known s) ss in
    ((omega (arith, number_below known s.from, name_grows (with_name known s.from) s.to, last), rest.0), (omega (arith, number_below (with_name known s.from) s.to, last), rest.1))

-- they are numbered in the order of first mention
module _ (known : List (List ℕ)) (name : List ℕ) (more : List ℕ) where
  pub numbered_one : AreNumberedFrom (length (with_name known name)) more → AreNumberedFrom (length known) (number_of known name ∷ more)
  numbered_one h = elim (known_or_new known name) [
    | inl k ↦ inl (k.below, subst (λ ks. AreNumberedFrom (length ks) more) k.stays h)
    | inr n ↦ inr (n.next, subst (λ m. AreNumberedFrom m more) (one_longer known name) (subst (λ ks. AreNumberedFrom (length ks) more) n.grows h))
  ]

pub numbered_states : (known qs : List (List ℕ)) → AreNumberedFrom (length known) (numbers_from known qs)
numbered_states known [] = tt
numbered_states known (q ∷ qs) = numbered_one known q (numbers_from (with_name known q) qs) (numbered_states (with_name known q) qs)

pub numbered_steps : (known : List (List ℕ)) (ss : List Step) (more : List ℕ) → AreNumberedFrom (length (with_steps known ss)) more → AreNumberedFrom (length known) (ends_of (edges_from known ss) ++ more)
numbered_steps known [] more h = h
numbered_steps known (s ∷ ss) more h =
    let later = ends_of (edges_from (with_step known s) ss) ++ more in
    numbered_one known s.from (number_of (with_name known s.from) s.to ∷ later)
    (numbered_one (with_name known s.from) s.to later (numbered_steps (with_step known s) ss more h))

-- more transitions, and more states
pub edges_more : (known : List (List ℕ)) (ss ts : List Step) → edges_from known (ss ++ ts) ≡ edges_from known ss ++ edges_from (with_steps known ss) ts
edges_more known [] ts = refl
edges_more known (s ∷ ss) ts = ap (λ es. edge_of known s ∷ es) (edges_more (with_step known s) ss ts)

pub steps_more : (known : List (List ℕ)) (ss ts : List Step) → with_steps known (ss ++ ts) ≡ with_steps (with_steps known ss) ts
steps_more known [] ts = refl
steps_more known (s ∷ ss) ts = steps_more (with_step known s) ss ts

pub edges_many : (known : List (List ℕ)) (ss : List Step) → length (edges_from known ss) ≡ length ss
edges_many known [] = refl
edges_many known (s ∷ ss) = ap suc (edges_many (with_step known s) ss)

abbrev pub with_names : List (List ℕ) → List (List ℕ) → List (List ℕ)
with_names known [] = known
with_names known (q ∷ qs) = with_names (with_name known q) qs

pub numbers_more : (known qs rs : List (List ℕ)) → numbers_from known (qs ++ rs) ≡ numbers_from known qs ++ numbers_from (with_names known qs) rs
numbers_more known [] rs = refl
numbers_more known (q ∷ qs) rs = ap (λ ns. number_of known q ∷ ns) (numbers_more (with_name known q) qs rs)

pub names_more : (known qs rs : List (List ℕ)) → with_names known (qs ++ rs) ≡ with_names (with_names known qs) rs
names_more known [] rs = refl
names_more known (q ∷ qs) rs = names_more (with_name known q) qs rs

pub numbers_many : (known qs : List (List ℕ)) → length (numbers_from known qs) ≡ length qs
numbers_many known [] = refl
numbers_many known (q ∷ qs) = ap suc (numbers_many (with_name known q) qs)
