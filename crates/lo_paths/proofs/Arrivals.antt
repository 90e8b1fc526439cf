-- What tells whether states are reached, and what arrivals say.
use Rattle.std.proofs.Common.{◌≡◌, ℕ, suc, ◌+◌, ◌≤◌, ℤ, Bool, true, false, not, ◌&&◌, ◌||◌, if◌then◌else◌, Option, None, Some, List, [], ◌∷◌, ◌++◌, length, map, refl, ap, ap₂, sym, subst, ◌∙◌, arith, true≢false}
use Rattle.std.specs.Prelude.{eqb, filter}
use Rattle.std.specs.List.{AllByRecursion, list_any}
use Rattle.std.proofs.lemmas.Bool.{eqb-true}
use Rattle.fz_model.specs.Meaning.{truth, is_one}
use Rattle.lo_emit.specs.declared.term.Term.{Term}
use Rattle.lo_paths.specs.declared.path.Arrival.{Arrival}
use Rattle.lo_paths.specs.Path.{reach, arriving_one, arriving, final_one, final_truths}
use Rattle.lo_paths.proofs.Targets.{turned}
use Rattle.lo_rules.specs.Rule.{num}
use Rattle.lo_rules.proofs.Pairs.{cons_head, cons_tail}
use Rattle.lo_rules.proofs.Tests.{one_truth}
use Rattle.xs_model.specs.declared.instance.Edge.{Edge}
use Rattle.xs_paths.specs.Layers.{finals_of}

-- lists with one more

pub filter_more : {X : Type 0} (p : X → Bool) (xs : List X) (x : X) → filter p (xs ++ x ∷ []) ≡ filter p xs ++ (if p x then x ∷ [] else [])
filter_more p [] x = refl
filter_more {X} p (y ∷ ys) x = by (p y) (filter_more p ys x)
  where
    end : List X
    end = if p x then x ∷ [] else []

    by : (t : Bool) → filter p (ys ++ x ∷ []) ≡ filter p ys ++ end → (if t then y ∷ filter p (ys ++ x ∷ []) else filter p (ys ++ x ∷ [])) ≡ (if t then y ∷ filter p ys else filter p ys) ++ end
    by true h = ap (λ (zs : List X). y ∷ zs) h
    by false h = h

pub filter_few : {X : Type 0} (p : X → Bool) (xs : List X) → length (filter p xs) ≤ length xs
filter_few p [] = omega arith
filter_few {X} p (x ∷ xs) = by (p x) (filter_few p xs)
  where
    by : (t : Bool) → length (filter p xs) ≤ length xs → length (if t then x ∷ filter p xs else filter p xs) ≤ suc (length xs)
    by true h = omega (arith, h)
    by false h = omega (arith, h)

-- a state that is live, or is not

pub reach_none : (qs : List ℕ) (ts : List Term) (q : ℕ) → length ts ≡ length qs → reach qs ts q ≡ None → list_any (eqb q) qs ≡ false
reach_none [] ts q even e = refl
reach_none (p ∷ qs) [] q even e = absurd (omega (arith, even))
reach_none (p ∷ qs) (t ∷ ts) q even e = by (eqb p q) refl e (reach_none qs ts q (omega (arith, even)))
  where
    by : (s : Bool) → eqb p q ≡ s → (if s then Some t else reach qs ts q) ≡ None → (reach qs ts q ≡ None → list_any (eqb q) qs ≡ false) → (eqb q p || list_any (eqb q) qs) ≡ false
    by true d h rest = absurd (cc h)
    by false d h rest = ap₂ (λ (r s : Bool). r || s) (turned q p ∙ d) (rest h)

pub reach_some : (qs : List ℕ) (ts : List Term) (q : ℕ) (r : Term) → reach qs ts q ≡ Some r → list_any (eqb q) qs ≡ true
reach_some [] ts q r e = absurd (cc e)
reach_some (p ∷ qs) [] q r e = absurd (cc e)
reach_some (p ∷ qs) (t ∷ ts) q r e = by (eqb p q) refl e (reach_some qs ts q r)
  where
    or_true : (s : Bool) → (s || true) ≡ true
    or_true true = refl
    or_true false = refl

    by : (s : Bool) → eqb p q ≡ s → (if s then Some t else reach qs ts q) ≡ Some r → (reach qs ts q ≡ Some r → list_any (eqb q) qs ≡ true) → (eqb q p || list_any (eqb q) qs) ≡ true
    by true d h rest = ap (λ (s : Bool). s || list_any (eqb q) qs) (turned q p ∙ d)
    by false d h rest = ap (λ (s : Bool). eqb q p || s) (rest h) ∙ or_true (eqb q p)

some_is : {X : Type 0} (x y : X) → Some x ≡ Some y → x ≡ y
some_is x y e = cc e

pub reach_all : (R : Term → Type 0) (qs : List ℕ) (ts : List Term) (q : ℕ) (r : Term) → AllByRecursion R ts → reach qs ts q ≡ Some r → R r
reach_all R [] ts q r h e = absurd (cc e)
reach_all R (p ∷ qs) [] q r h e = absurd (cc e)
reach_all R (p ∷ qs) (t ∷ ts) q r h e = by (eqb p q) e (reach_all R qs ts q r h.1)
  where
    by : (s : Bool) → (if s then Some t else reach qs ts q) ≡ Some r → (reach qs ts q ≡ Some r → R r) → R r
    by true d rest = subst R (some_is t r d) h.0
    by false d rest = rest d

pub reach_value : (b : List ℤ) (f : ℕ → Bool) (qs : List ℕ) (ts : List Term) (q : ℕ) (r : Term) → map (num b) ts ≡ map (λ p. truth (f p)) qs → reach qs ts q ≡ Some r → num b r ≡ truth (f q)
reach_value b f [] ts q r h e = absurd (cc e)
reach_value b f (p ∷ qs) [] q r h e = absurd (cc e)
reach_value b f (p ∷ qs) (t ∷ ts) q r h e = by (eqb p q) refl e (reach_value b f qs ts q r (cons_tail (num b t) (truth (f p)) (map (num b) ts) (map (λ k. truth (f k)) qs) h))
  where
    by : (d : Bool) → eqb p q ≡ d → (if d then Some t else reach qs ts q) ≡ Some r → (reach qs ts q ≡ Some r → num b r ≡ truth (f q)) → num b r ≡ truth (f q)
    by true is d rest =
        ap (num b) (sym (some_is t r d)) ∙ cons_head (num b t) (truth (f p)) (map (num b) ts) (map (λ k. truth (f k)) qs) h ∙ ap (λ (k : ℕ). truth (f k)) (eqb-true p q is)
    by false is d rest = rest d

-- arrivals tell of transitions whether they are taken

abbrev pub Match : (Edge → Bool) → List ℤ → List Arrival → List Edge → Type 0
Match w b [] [] = Unit {0}
Match w b [] (e ∷ es) = ⊥
Match w b (a ∷ rs) [] = ⊥
Match w b (a ∷ rs) (e ∷ es) = ((a.state ≡ e.to) × (num b a.truth ≡ truth (w e))) × Match w b rs es

pub match_more : (w : Edge → Bool) (b : List ℤ) (rs : List Arrival) (es : List Edge) (a : Arrival) (e : Edge) → Match w b rs es → a.state ≡ e.to → num b a.truth ≡ truth (w e) → Match w b (rs ++ a ∷ []) (es ++ e ∷ [])
match_more w b [] [] a e h s t = ((s, t), tt)
match_more w b [] (f ∷ es) a e h s t = absurd h
match_more w b (c ∷ rs) [] a e h s t = absurd h
match_more w b (c ∷ rs) (f ∷ es) a e h s t = (h.0, match_more w b rs es a e h.1 s t)

module _ (w : Edge → Bool) (b : List ℤ) (q : ℕ) where
  our_step : (a : Arrival) (ts : List Term) (t : Bool) → list_any is_one (map (num b) ((if t then a.truth ∷ [] else []) ++ ts)) ≡ ((t && is_one (num b a.truth)) || list_any is_one (map (num b) ts))
  our_step a ts true = refl
  our_step a ts false = refl

  their_step : (e : Edge) (es : List Edge) (t : Bool) → list_any w (if t then e ∷ es else es) ≡ ((t && w e) || list_any w es)
  their_step e es true = refl
  their_step e es false = refl

  pub arrives_as : (rs : List Arrival) (es : List Edge) → Match w b rs es → list_any is_one (map (num b) (arriving q rs)) ≡ list_any w (filter (λ e. eqb e.to q) es)
  arrives_as [] [] h = refl
  arrives_as [] (e ∷ es) h = absurd h
  arrives_as (a ∷ rs) [] h = absurd h
  arrives_as (a ∷ rs) (e ∷ es) h =
      our_step a (arriving q rs) (eqb a.state q)
      ∙ ap₂ (λ (s t : Bool). s || t) (ap₂ (λ (s t : Bool). s && t) (ap (λ (p : ℕ). eqb p q) h.0.0) (ap is_one h.0.1 ∙ one_truth (w e))) (arrives_as rs es h.1)
      ∙ sym (their_step e (filter (λ f. eqb f.to q) es) (eqb e.to q))

pub arriving_all : (R : Term → Type 0) (q : ℕ) (rs : List Arrival) → AllByRecursion R (map (λ a. a.truth) rs) → AllByRecursion R (arriving q rs)
arriving_all R q [] h = tt
arriving_all R q (a ∷ rs) h = by (eqb a.state q) (arriving_all R q rs h.1)
  where
    by : (t : Bool) → AllByRecursion R (arriving q rs) → AllByRecursion R ((if t then a.truth ∷ [] else []) ++ arriving q rs)
    by true k = (h.0, k)
    by false k = k

-- final states

module _ (finals : List ℕ) where
  pub finals_all : (R : Term → Type 0) (qs : List ℕ) (ts : List Term) → AllByRecursion R ts → AllByRecursion R (final_truths finals qs ts)
  finals_all R [] ts h = tt
  finals_all R (q ∷ qs) [] h = tt
  finals_all R (q ∷ qs) (t ∷ ts) h = by (list_any (eqb q) finals) (finals_all R qs ts h.1)
    where
      by : (s : Bool) → AllByRecursion R (final_truths finals qs ts) → AllByRecursion R ((if s then t ∷ [] else []) ++ final_truths finals qs ts)
      by true k = (h.0, k)
      by false k = k

  final_step : (b : List ℤ) (t : Term) (ts : List Term) (s : Bool) → list_any is_one (map (num b) ((if s then t ∷ [] else []) ++ ts)) ≡ ((s && is_one (num b t)) || list_any is_one (map (num b) ts))
  final_step b t ts true = refl
  final_step b t ts false = refl

  their_final : (f : ℕ → Bool) (q : ℕ) (qs : List ℕ) (s : Bool) → list_any f (if s then q ∷ qs else qs) ≡ ((s && f q) || list_any f qs)
  their_final f q qs true = refl
  their_final f q qs false = refl

  pub finals_as : (b : List ℤ) (f : ℕ → Bool) (qs : List ℕ) (ts : List Term) → map (num b) ts ≡ map (λ q. truth (f q)) qs → list_any is_one (map (num b) (final_truths finals qs ts)) ≡ list_any f (finals_of finals qs)
  finals_as b f [] ts h = refl
  finals_as b f (q ∷ qs) [] h = absurd (cc h)
  finals_as b f (q ∷ qs) (t ∷ ts) h =
      let head : num b t ≡ truth (f q) = cons_head (num b t) (truth (f q)) (map (num b) ts) (map (λ p. truth (f p)) qs) h in
      let rest = finals_as b f qs ts (cons_tail (num b t) (truth (f q)) (map (num b) ts) (map (λ p. truth (f p)) qs) h) in
      final_step b t (final_truths finals qs ts) (list_any (eqb q) finals)
      ∙ ap₂ (λ (r s : Bool). r || s) (ap (λ (s : Bool). list_any (eqb q) finals && s) (ap is_one head ∙ one_truth (f q))) rest
      ∙ sym (their_final f q (finals_of finals qs) (list_any (eqb q) finals))

  pub finals_few : (qs : List ℕ) (ts : List Term) → length (final_truths finals qs ts) ≤ length qs
  finals_few [] ts = omega arith
  finals_few (q ∷ qs) [] = omega arith
  finals_few (q ∷ qs) (t ∷ ts) = by (list_any (eqb q) finals) (finals_few qs ts)
    where
      by : (s : Bool) → length (final_truths finals qs ts) ≤ length qs → length ((if s then t ∷ [] else []) ++ final_truths finals qs ts) ≤ suc (length qs)
      by true k = omega (arith, k)
      by false k = omega (arith, k)
