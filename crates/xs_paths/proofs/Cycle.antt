-- A circuit as a function from the numbers below the count of its nodes to their places.
use Rattle.std.proofs.Common.{◌≡◌, ℕ, zero, suc, ◌+◌, ◌<◌, ◌≤◌, ◌⊎◌, inl, inr, ℤ, List, [], ◌∷◌, ◌++◌, length, get_or, map, refl, ap, sym, ◌∙◌, subst, arith, length-append}
use Rattle.std.specs.List.{AllByRecursion, range_with_len}
use Rattle.std.proofs.lemmas.Bool.{cases_eq}
use Rattle.std.proofs.lemmas.List.{get_or_append_left, get_or-append-add}
use Rattle.std.proofs.lemmas.List.FromFn.{length-map-range_with_len, get_or-map-range_with_len}
use Rattle.xs_model.specs.Counting.{PointsTo}
use Rattle.xs_model.specs.Schedule.{IsPlaceOf, IsCircuitOf, IsCircuit}
use Rattle.xs_laws.proofs.Finite.{OneToOne, one_to_one}
use Rattle.xs_laws.proofs.Places.{all_at, all_of, consecutive_at, consecutive_of, some_at, some_of}

pub record IsCycle (start : ℤ) (xs : List ℤ) (m : ℕ) (c : ℕ → ℕ) : Type 0 where
  pub two : 2 ≤ m
  pub one : OneToOne c m
  pub inside : (i : ℕ) → i < m → c i < length xs
  pub steps : (i : ℕ) → suc i < m → PointsTo start xs (c i) (c (suc i))
  pub closes : (i : ℕ) → suc i ≡ m → PointsTo start xs (c i) (c 0)
  pub others : (p : ℕ) → p < length xs → ((i : ℕ) × (i < m) × (c i ≡ p)) ⊎ PointsTo start xs p p

-- from a list of places
module _ (start : ℤ) (xs : List ℤ) (first : ℕ) (rest : List ℕ) where
  abbrev c : ℕ → ℕ
  c i = get_or (first ∷ rest) i 0

  round_at : (i : ℕ) → i < length (first ∷ rest) → get_or (first ∷ (rest ++ first ∷ [])) i 0 ≡ c i
  round_at i lt = get_or_append_left (first ∷ rest) (first ∷ []) 0 i lt

  round_last : (i : ℕ) → i ≡ length (first ∷ rest) → get_or (first ∷ (rest ++ first ∷ [])) i 0 ≡ first
  round_last i e = ap (λ (k : ℕ). get_or (first ∷ (rest ++ first ∷ [])) k 0) (let k : i ≡ length (first ∷ rest) + 0 = omega arith in k) ∙ get_or-append-add (first ∷ rest) (first ∷ []) 0 0

  led : (i : ℕ) → IsCircuitOf start xs first rest → i < length (first ∷ rest) → PointsTo start xs (c i) (get_or (first ∷ (rest ++ first ∷ [])) (suc i) 0)
  led i h lt =
      subst (λ (p : ℕ). PointsTo start xs p (get_or (first ∷ (rest ++ first ∷ [])) (suc i) 0)) (round_at i lt)
      (consecutive_at (PointsTo start xs) (first ∷ (rest ++ first ∷ [])) i 0 h.leads (omega (arith, length-append {A = ℕ})))

  cycle_of : (nodes : ℕ) → IsCircuitOf start xs first rest → AllByRecursion (λ p. p < length xs) (first ∷ rest) → ((p : ℕ) → p < length xs → IsPlaceOf (first ∷ rest) p ⊎ PointsTo start xs p p) → IsCycle start xs (length (first ∷ rest)) c
  cycle_of nodes h inside others = record {
    two = (let k = h.two in omega arith);
    one = one_to_one c (length (first ∷ rest)) (λ i j lt hj. h.distinct i j 0 lt hj);
    inside = λ i lt. all_at (λ p. p < length xs) (first ∷ rest) i 0 inside lt;
    steps = λ i lt. subst (PointsTo start xs (c i)) (round_at (suc i) lt) (led i h (omega arith));
    closes = λ i e. subst (PointsTo start xs (c i)) (round_last (suc i) e) (led i h (omega arith));
    others = λ p lt. elim (others p lt) [
      | inl s ↦ let r = some_at (λ q. p ≡ q) (first ∷ rest) 0 s in inl (r.0, r.1, sym r.2)
      | inr s ↦ inr s
    ];
  }

pub cycle_from_circuit : (start : ℤ) (xs : List ℤ) (nodes : ℕ) → IsCircuit start xs nodes → (c : ℕ → ℕ) × IsCycle start xs nodes c
cycle_from_circuit start xs nodes h =
    (c start xs h.first h.rest, subst (λ (m : ℕ). IsCycle start xs m (c start xs h.first h.rest)) (sym h.count) (cycle_of start xs h.first h.rest nodes h.circuit h.inside h.others))

-- to a list of places
module _ (start : ℤ) (xs : List ℤ) (m : ℕ) (c : ℕ → ℕ) (h : IsCycle start xs (suc m) c) where
  abbrev later : List ℕ
  later = map c (range_with_len 1 m)

  long : length later ≡ m
  long = length-map-range_with_len c 1 m

  place : (i : ℕ) (d : ℕ) → i < suc m → get_or (c 0 ∷ later) i d ≡ c i
  place zero d lt = refl
  place (suc i) d lt = get_or-map-range_with_len c 1 m i (suc i) d (omega arith) (omega arith)

  turn : (i : ℕ) → i < suc m → PointsTo start xs (get_or (c 0 ∷ (later ++ c 0 ∷ [])) i 0) (get_or (c 0 ∷ (later ++ c 0 ∷ [])) (suc i) 0)
  turn i lt = elim (cases_eq i m) [
    | inl e ↦ to (c 0) (next (suc i) (suc m) 0 (omega arith) (omega arith)) (h.closes i (omega arith))
    | inr ne ↦ to (c (suc i)) (get_or_append_left (c 0 ∷ later) (c 0 ∷ []) 0 (suc i) (omega (arith, long, ne)) ∙ place (suc i) 0 (omega (arith, ne))) (h.steps i (omega (arith, ne)))
  ]
    where
      next : (k l j : ℕ) → k ≡ l + j → l ≡ suc m → get_or (c 0 ∷ (later ++ c 0 ∷ [])) k 0 ≡ get_or (c 0 ∷ []) j 0
      next k l j e f =
          ap (λ (k : ℕ). get_or (c 0 ∷ (later ++ c 0 ∷ [])) k 0) (let g : k ≡ length (c 0 ∷ later) + j = omega (arith, long) in g)
          ∙ get_or-append-add (c 0 ∷ later) (c 0 ∷ []) j 0

      to : (q : ℕ) → get_or (c 0 ∷ (later ++ c 0 ∷ [])) (suc i) 0 ≡ q → PointsTo start xs (c i) q → PointsTo start xs (get_or (c 0 ∷ (later ++ c 0 ∷ [])) i 0) (get_or (c 0 ∷ (later ++ c 0 ∷ [])) (suc i) 0)
      to q e g =
          subst (λ (p : ℕ). PointsTo start xs p (get_or (c 0 ∷ (later ++ c 0 ∷ [])) (suc i) 0)) (sym (get_or_append_left (c 0 ∷ later) (c 0 ∷ []) 0 i (omega (arith, long)) ∙ place i 0 lt))
          (subst (PointsTo start xs (c i)) (sym e) g)

  circuit_of : IsCircuit start xs (suc m)
  circuit_of = record {
    first = c 0;
    rest = later;
    circuit = record {
      two = (let k = h.two in omega (arith, long));
      distinct = λ i j d lt hj. λ e. let k = h.one i j (omega (arith, long)) (omega (arith, long)) (sym (place i d (omega (arith, long))) ∙ e ∙ place j d (omega (arith, long))) in absurd (omega arith);
      leads = consecutive_of (PointsTo start xs) (c 0 ∷ (later ++ c 0 ∷ [])) 0 (λ i lt. turn i (omega (arith, long, length-append {A = ℕ})));
    };
    inside = all_of (λ p. p < length xs) (c 0 ∷ later) 0 (λ i lt. let lt' : i < suc m = omega (arith, long) in subst (λ (p : ℕ). p < length xs) (sym (place i 0 lt')) (h.inside i lt'));
    others = λ p lt. elim (h.others p lt) [
      | inl r ↦ inl (some_of (λ q. p ≡ q) (c 0 ∷ later) r.0 0 (let k = r.1 in omega (arith, long)) (sym (place r.0 0 r.1 ∙ r.2)))
      | inr s ↦ inr s
    ];
    count = (omega (arith, long));
  }

pub circuit_from_cycle : (start : ℤ) (xs : List ℤ) (nodes : ℕ) (c : ℕ → ℕ) → IsCycle start xs nodes c → IsCircuit start xs nodes
circuit_from_cycle start xs zero c h = absurd (let k = h.two in omega arith)
circuit_from_cycle start xs (suc m) c h = circuit_of start xs m c h
