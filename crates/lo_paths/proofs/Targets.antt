-- Lists in which each state stands once.
use Rattle.std.proofs.Common.{◌≡◌, ℕ, suc, ◌+◌, ◌≤◌, Bool, true, false, not, ◌&&◌, ◌||◌, if◌then◌else◌, List, [], ◌∷◌, ◌++◌, length, map, refl, ap, ap₂, sym, ◌∙◌, arith, true≢false}
use Rattle.std.specs.Prelude.{eqb, filter}
use Rattle.std.specs.List.{list_any}
use Rattle.std.proofs.lemmas.Bool.{eqb-true}
use Rattle.std.proofs.lemmas.List.{append_assoc, append-nil}
use Rattle.xs_paths.specs.Layers.{once}
use Rattle.lo_paths.specs.Path.{with_one}

-- states put to others one after the other
abbrev pub adds : List ℕ → List ℕ → List ℕ
adds ts [] = ts
adds ts (q ∷ qs) = adds (with_one ts q) qs

module _ {X : Type 0} (f g h : X → Bool) (same : (p : X) → (g p && f p) ≡ h p) where
  kept : (x : X) (xs : List X) (t : Bool) → filter f (if t then x ∷ xs else xs) ≡ (if t && f x then x ∷ filter f xs else filter f xs)
  kept x xs true = refl
  kept x xs false = refl

  -- what passes one test and then another
  pub filter_twice : (xs : List X) → filter f (filter g xs) ≡ filter h xs
  filter_twice [] = refl
  filter_twice (x ∷ xs) = kept x (filter g xs) (g x) ∙ ap₂ (λ (t : Bool) (ys : List X). if t then x ∷ ys else ys) (same x) (filter_twice xs)

all_pass : (xs : List ℕ) → filter (λ p. not false) xs ≡ xs
all_pass [] = refl
all_pass (x ∷ xs) = ap (λ (ys : List ℕ). x ∷ ys) (all_pass xs)

any_more : (p : ℕ) (ts : List ℕ) (q : ℕ) → list_any (eqb p) (ts ++ q ∷ []) ≡ (list_any (eqb p) ts || eqb p q)
any_more p [] q = or_false (eqb p q)
  where
    or_false : (t : Bool) → (t || false) ≡ t
    or_false true = refl
    or_false false = refl
any_more p (t ∷ ts) q = ap (λ (b : Bool). eqb p t || b) (any_more p ts q) ∙ assoc (eqb p t) (list_any (eqb p) ts) (eqb p q)
  where
    assoc : (r s t : Bool) → (r || (s || t)) ≡ ((r || s) || t)
    assoc true s t = refl
    assoc false s t = refl

pub turned : (p q : ℕ) → eqb p q ≡ eqb q p
turned p q = grind arith

outside : List ℕ → ℕ → Bool
outside ts p = not (list_any (eqb p) ts)

-- a state that is there already
there : (ts : List ℕ) (q : ℕ) → list_any (eqb q) ts ≡ true → (p : ℕ) → (not (eqb q p) && outside ts p) ≡ outside ts p
unfolding outside
there ts q e p = by (eqb q p) refl
  where
    by : (t : Bool) → eqb q p ≡ t → (not t && not (list_any (eqb p) ts)) ≡ not (list_any (eqb p) ts)
    by true d = sym (ap (λ (r : ℕ). not (list_any (eqb r) ts)) (sym (eqb-true q p d)) ∙ ap not e)
    by false d = refl

-- a new one
added : (ts : List ℕ) (q p : ℕ) → (not (eqb q p) && outside ts p) ≡ outside (ts ++ q ∷ []) p
unfolding outside
added ts q p = demorgan (eqb q p) (list_any (eqb p) ts) ∙ ap (λ (t : Bool). not (list_any (eqb p) ts || t)) (turned q p) ∙ ap not (sym (any_more p ts q))
  where
    demorgan : (s t : Bool) → (not s && not t) ≡ not (t || s)
    demorgan true true = refl
    demorgan true false = refl
    demorgan false true = refl
    demorgan false false = refl

adds_behind : (ts qs : List ℕ) → adds ts qs ≡ ts ++ filter (outside ts) (once qs)
unfolding outside
adds_behind ts [] = sym (append-nil ts)
adds_behind ts (q ∷ qs) = by (list_any (eqb q) ts) refl (adds_behind ts qs) (adds_behind (ts ++ q ∷ []) qs)
  where
    new : List ℕ
    new = filter (λ p. not (eqb q p)) (once qs)

    by : (t : Bool) → list_any (eqb q) ts ≡ t → adds ts qs ≡ ts ++ filter (outside ts) (once qs) → adds (ts ++ q ∷ []) qs ≡ (ts ++ q ∷ []) ++ filter (outside (ts ++ q ∷ [])) (once qs)
        → adds (if t then ts else ts ++ q ∷ []) qs ≡ ts ++ (if not t then q ∷ filter (outside ts) new else filter (outside ts) new)
    by true e old more = old ∙ ap (λ (xs : List ℕ). ts ++ xs) (sym (filter_twice (outside ts) (λ p. not (eqb q p)) (outside ts) (there ts q e) (once qs)))
    by false e old more =
        more ∙ append_assoc ts (q ∷ []) (filter (outside (ts ++ q ∷ [])) (once qs))
        ∙ ap (λ (xs : List ℕ). ts ++ (q ∷ xs)) (sym (filter_twice (outside ts) (λ p. not (eqb q p)) (outside (ts ++ q ∷ [])) (added ts q) (once qs)))

pub adds_once : (qs : List ℕ) → adds [] qs ≡ once qs
unfolding outside
adds_once qs = adds_behind [] qs ∙ all_pass (once qs)
