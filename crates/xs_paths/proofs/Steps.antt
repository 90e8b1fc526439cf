-- A walk in the words of its steps.
use Rattle.std.proofs.Common.{◌≡◌, ℕ, zero, suc, ◌<◌, ◌≤◌, ◌-◌, inl, inr, ℤ, pos, ◌+ℤ◌, ◌-ℤ◌, Bool, true, false, ◌||◌, List, length, refl, ap, ap₂, sym, ◌∙◌, subst, arith}
use Rattle.std.specs.List.{AllByRecursion, list_any}
use Rattle.std.specs.Ordering.{int_eq}
use Rattle.std.proofs.lemmas.Bool.{true≢false, both_ways, cases_eq, cases_lt, or_cases}
use Rattle.std.proofs.lemmas.Bool.Decides.{Decides-int_eq}
use Rattle.std.proofs.lemmas.Int.{ints}
use Rattle.xs_model.specs.Value.{at, sum_of}
use Rattle.xs_laws.specs.Indices.{IsIndex, place_of, count_below}
use Rattle.xs_paths.specs.Walk.{is_moved, walked, IsWalk}
use Rattle.xs_laws.specs.Indices.{bits_below}
use Rattle.xs_paths.specs.Steps.{is_seen, walk, first_index, IsStepped, CircuitStepsLaw, WalkLaw}
use Rattle.xs_laws.proofs.Finite.{least, count_yes, count_no}
use Rattle.xs_laws.proofs.Places.{all_at, index_place, place_of_index}
use Rattle.xs_laws.proofs.Distinct.{places_sum}
use Rattle.xs_paths.proofs.Circuit.{circuit_is_walked}

-- what is seen
seen_since : (f : ℕ → Bool) (p q : ℕ) → f p ≡ true → p ≤ q → is_seen f q ≡ true
seen_since f p zero h le = ap f (let k : 0 ≡ p = omega arith in k) ∙ h
seen_since f p (suc q) h le = elim (cases_eq p (suc q)) [
  | inl e ↦ ap (λ (b : Bool). is_seen f q || b) (ap f (sym e) ∙ h) ∙ always (is_seen f q)
  | inr ne ↦ ap (λ (b : Bool). b || f (suc q)) (seen_since f p q h (omega (arith, ne)))
]
  where
    always : (b : Bool) → (b || true) ≡ true
    always true = refl
    always false = refl

unseen_before : (f : ℕ → Bool) (m q : ℕ) → ((p : ℕ) → p < m → f p ≡ false) → q < m → is_seen f q ≡ false
unseen_before f m zero h lt = h 0 lt
unseen_before f m (suc q) h lt = ap₂ (λ (a b : Bool). a || b) (unseen_before f m q h (omega arith)) (h (suc q) lt)

seen_some : (f : ℕ → Bool) (q : ℕ) → is_seen f q ≡ true → (p : ℕ) × (p ≤ q) × (f p ≡ true)
seen_some f zero h = (0, omega arith, h)
seen_some f (suc q) h = elim (or_cases (is_seen f q) (f (suc q)) h) [
  | inl before ↦ let r = seen_some f q before in (r.0, (let k = r.1 in omega arith), r.2)
  | inr here ↦ (suc q, omega arith, here)
]

-- what passes exactly from m on
count_from : (g : ℕ → Bool) (m n : ℕ) → ((p : ℕ) → p < m → g p ≡ false) → ((p : ℕ) → m ≤ p → g p ≡ true) → count_below g n ≡ n - m
count_from g m zero low high = omega arith
count_from g m (suc n) low high = elim (cases_lt n m) [
  | inl lt ↦ let k = count_from g m n low high in let c = count_no g n (low n lt) in omega arith
  | inr ge ↦ let k = count_from g m n low high in let c = count_yes g n (high n ge) in omega arith
]

first_is : (start : ℤ) (xs : List ℤ) (m : ℕ) → m < length xs → is_moved start xs m ≡ true → ((p : ℕ) → p < m → is_moved start xs p ≡ false) → first_index start xs ≡ (start +ℤ pos m)
first_is start xs m lt moved still =
    let f = is_moved start xs in
    let c : count_below (is_seen f) (length xs) ≡ length xs - m = count_from (is_seen f) m (length xs) (λ p hp. unseen_before f m p still hp) (λ p hp. seen_since f m p moved hp) in
    let s : sum_of (bits_below (is_seen f) (length xs)) ≡ pos (length xs - m) = sym (places_sum (is_seen f) (length xs)) ∙ ap pos c in
    ap (λ (z : ℤ). (start +ℤ pos (length xs)) -ℤ z) s ∙ less start (length xs) m lt
  where
    less : (start : ℤ) (n m : ℕ) → m < n → ((start +ℤ pos n) -ℤ pos (n - m)) ≡ (start +ℤ pos m)
    less start n m lt = omega (arith, ints)

-- the walk as a list
module _ (start : ℤ) (xs : List ℤ) where
  pub walked_on : (w : ℤ) (k : ℕ) → walked start xs (at xs (place_of start w)) k ≡ walked start xs w (suc k)
  walked_on w zero = refl
  walked_on w (suc k) = ap (λ (i : ℤ). at xs (place_of start i)) (walked_on w k)

  met_by : (i w : ℤ) (n k : ℕ) → k < n → walked start xs w k ≡ i → list_any (λ u. int_eq u i) (walk start xs w n) ≡ true
  met_by i w zero k lt e = absurd (omega arith)
  met_by i w (suc n) zero lt e = ap (λ (b : Bool). b || list_any (λ u. int_eq u i) (walk start xs (at xs (place_of start w)) n)) ((Decides-int_eq w i).1 e)
  met_by i w (suc n) (suc k) lt e = later (int_eq w i) (met_by i (at xs (place_of start w)) n k (omega arith) (walked_on w k ∙ e))
    where
      later : (b : Bool) → list_any (λ u. int_eq u i) (walk start xs (at xs (place_of start w)) n) ≡ true → (b || list_any (λ u. int_eq u i) (walk start xs (at xs (place_of start w)) n)) ≡ true
      later true e = refl
      later false e = e

  met_at : (i w : ℤ) (n : ℕ) → list_any (λ u. int_eq u i) (walk start xs w n) ≡ true → (k : ℕ) × (k < n) × (walked start xs w k ≡ i)
  met_at i w zero h = absurd (true≢false (sym h))
  met_at i w (suc n) h = elim (or_cases (int_eq w i) (list_any (λ u. int_eq u i) (walk start xs (at xs (place_of start w)) n)) h) [
    | inl here ↦ (0, omega arith, (Decides-int_eq w i).0 here)
    | inr later ↦ let r = met_at i (at xs (place_of start w)) n later in (suc r.0, (let k = r.1 in omega arith), sym (walked_on w r.0) ∙ r.2)
  ]

  all_walked : (Q : ℤ → Type 0) (w : ℤ) (n : ℕ) → ((k : ℕ) → Q (walked start xs w k)) → AllByRecursion Q (walk start xs w n)
  all_walked Q w zero h = tt
  all_walked Q w (suc n) h = (h 0, all_walked Q (at xs (place_of start w)) n (λ k. subst Q (sym (walked_on w k)) (h (suc k))))

  stepped_of : IsWalk start xs → IsStepped start xs
  stepped_of h = record {
    inside = h.inside;
    different = h.different;
    last = length xs - 1;
    many = (let k = h.within in omega arith);
    some = seen_since (is_moved start xs) h.first (length xs - 1) h.moved (let k = h.within in omega arith);
    meets = λ p lt moved.
        let r = h.meets p lt moved in
        met_by (start +ℤ pos p) (first_index start xs) (length xs) r.0 r.1 (ap (λ (w : ℤ). walked start xs w r.0) (first_is start xs h.first h.within h.moved h.still) ∙ r.2);
  }

  walk_of : IsStepped start xs → IsWalk start xs
  walk_of h =
      let s = seen_some (is_moved start xs) h.last h.some in
      elim (least (is_moved start xs) (length xs)) [
        | inl r ↦ record {
          inside = h.inside;
          different = h.different;
          first = r.0;
          within = r.1;
          moved = r.2;
          still = r.3;
          meets = λ p lt moved.
              let t = met_at (start +ℤ pos p) (first_index start xs) (length xs) (h.meets p lt moved) in
              (t.0, t.1, ap (λ (w : ℤ). walked start xs w t.0) (sym (first_is start xs r.0 r.1 r.2 r.3)) ∙ t.2);
        }
        | inr none ↦ absurd (both_ways (is_moved start xs s.0) (none s.0 (let k = s.1 in let m = h.many in omega arith)) s.2)
      ]

pub circuit_is_stepped : CircuitStepsLaw
circuit_is_stepped start xs nodes =
    let law = circuit_is_walked start xs nodes in
    let s = places_sum (is_moved start xs) (length xs) in (
      λ h. let g = law.0 h in (stepped_of start xs g.0, sym s ∙ ap pos (sym g.1)),
      λ h. law.1 (walk_of start xs h.0, (let e = h.1 in omega (arith, ints, s, e))),
    )

-- where every value is an index, a walk from an index stays at indices
stays : (start : ℤ) (xs : List ℤ) (w : ℤ) → AllByRecursion (IsIndex start (length xs)) xs → IsIndex start (length xs) w → (k : ℕ) → IsIndex start (length xs) (walked start xs w k)
stays start xs w inside h zero = h
stays start xs w inside h (suc k) =
    let before = stays start xs w inside h k in
    let r = index_place start (length xs) (walked start xs w k) before.0 before.1 in
    subst (IsIndex start (length xs)) (ap (at xs) (sym (ap (place_of start) r.2 ∙ place_of_index start r.0))) (all_at (IsIndex start (length xs)) xs r.0 (pos 0) inside r.1)

pub walk_is_inside : WalkLaw
walk_is_inside start xs last inside many some =
    let s = seen_some (is_moved start xs) last some in
    elim (least (is_moved start xs) (length xs)) [
      | inl r ↦
          let e = first_is start xs r.0 r.1 r.2 r.3 in
          let lt = r.1 in
          all_walked start xs (IsIndex start (length xs)) (first_index start xs) (length xs) (stays start xs (first_index start xs) inside (omega (arith, ints, e, lt), omega (arith, ints, e, lt)))
      | inr none ↦ absurd (both_ways (is_moved start xs s.0) (none s.0 (let k = s.1 in omega arith)) s.2)
    ]
