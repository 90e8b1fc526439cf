-- A circuit is a walk.
use Rattle.std.proofs.Common.{◌≡◌, ◌≢◌, ℕ, zero, suc, ◌+◌, ◌<◌, ◌≤◌, ◌-◌, ◌⊎◌, inl, inr, ℤ, pos, ◌+ℤ◌, Bool, true, false, List, length, refl, ap, sym, ◌∙◌, subst, arith, eqb}
use Rattle.std.specs.List.{AllByRecursion, AllPairs}
use Rattle.std.specs.Ordering.{int_eq}
use Rattle.std.proofs.lemmas.Int.{ints}
use Rattle.std.proofs.lemmas.Bool.{both_ways, cases_Bool, cases_eq, cases_lt, cases_order, eqb-true, eqb-false, not-true, not-false}
use Rattle.std.proofs.lemmas.Bool.Decides.{Decides-int_eq}
use Rattle.std.proofs.lemmas.List.{get_or_default}
use Rattle.xs_model.specs.Counting.{PointsTo}
use Rattle.xs_model.specs.Value.{at}
use Rattle.xs_laws.specs.Indices.{IsIndex, place_of, count_below}
use Rattle.xs_paths.specs.Walk.{is_moved, walked, IsWalk, CircuitLaw}
use Rattle.xs_laws.proofs.Finite.{OneToOne, one_to_one, at_most, count_injects, count_onto, least}
use Rattle.xs_laws.proofs.Places.{all_at, all_of, index_unique, index_place, place_of_index}
use Rattle.xs_paths.proofs.Cycle.{IsCycle, cycle_from_circuit, circuit_from_cycle}

-- a moved place
pub moved_leaves : (start : ℤ) (xs : List ℤ) (p : ℕ) → is_moved start xs p ≡ true → PointsTo start xs p p → ⊥
moved_leaves start xs p h e = both_ways (int_eq (at xs p) (start +ℤ pos p)) (not-true (int_eq (at xs p) (start +ℤ pos p)) h) ((Decides-int_eq (at xs p) (start +ℤ pos p)).1 e)

pub still_stays : (start : ℤ) (xs : List ℤ) (p : ℕ) → is_moved start xs p ≡ false → PointsTo start xs p p
still_stays start xs p h = (Decides-int_eq (at xs p) (start +ℤ pos p)).0 (not-false (int_eq (at xs p) (start +ℤ pos p)) h)

pub moved_since : (start : ℤ) (xs : List ℤ) (p : ℕ) → (PointsTo start xs p p → ⊥) → is_moved start xs p ≡ true
moved_since start xs p h = elim (cases_Bool (is_moved start xs p)) [ inl moved ↦ moved | inr still ↦ absurd (h (still_stays start xs p still)) ]

-- one step of the walk
pub step : (start : ℤ) (xs : List ℤ) (w : ℤ) (k p q : ℕ) → walked start xs w k ≡ (start +ℤ pos p) → PointsTo start xs p q → walked start xs w (suc k) ≡ (start +ℤ pos q)
step start xs w k p q e g = ap (at xs) (ap (place_of start) e ∙ place_of_index start p) ∙ g

-- a circuit is walked
module _ (start : ℤ) (xs : List ℤ) (m : ℕ) (c : ℕ → ℕ) (h : IsCycle start xs m c) where
  abbrev Next : ℕ → ℕ → Type 0
  Next i j = (suc i ≡ j) ⊎ ((suc i ≡ m) × (j ≡ 0))

  next : (i : ℕ) → i < m → (j : ℕ) × (j < m) × PointsTo start xs (c i) (c j) × Next i j
  next i lt = elim (cases_eq (suc i) m) [
    | inl e ↦ (0, omega arith, h.closes i e, inr (e, refl))
    | inr ne ↦ (suc i, omega (arith, ne), h.steps i (omega (arith, ne)), inl refl)
  ]

  next_back : (i k j : ℕ) → Next i j → Next k j → i ≡ k
  next_back i k j (inl a) (inl b) = omega arith
  next_back i k j (inl a) (inr b) = absurd (omega arith)
  next_back i k j (inr a) (inl b) = absurd (omega arith)
  next_back i k j (inr a) (inr b) = omega arith

  next_other : (i : ℕ) → 2 ≤ m → Next i i → ⊥
  next_other i two (inl a) = omega arith
  next_other i two (inr a) = omega arith

  leaves : (i : ℕ) → i < m → PointsTo start xs (c i) (c i) → ⊥
  leaves i lt e =
      let r = next i lt in
      let same : r.0 ≡ i = h.one r.0 i r.1 lt (index_unique start (c r.0) (c i) (sym r.2 ∙ e)) in
      next_other i h.two (subst (Next i) same r.3)

  target : (p : ℕ) → p < length xs → (q : ℕ) × (q < length xs) × PointsTo start xs p q
  target p lt = elim (h.others p lt) [
    | inl r ↦ let s = next r.0 r.1 in (c s.0, h.inside s.0 s.1, ap (at xs) (sym r.2) ∙ s.2)
    | inr s ↦ (p, lt, s)
  ]

  inside : AllByRecursion (IsIndex start (length xs)) xs
  inside = all_of (IsIndex start (length xs)) xs (pos 0) (λ i lt. let t = target i lt in let a = t.1 in let b = t.2 in (omega (arith, ints, a, b), omega (arith, ints, a, b)))

  -- a place that stays is no value of another
  alone : (p : ℕ) (b : ℕ) → b < m → PointsTo start xs p p → at xs p ≡ at xs (c b) → ⊥
  alone p b lt s e =
      let r = next b lt in
      let same : p ≡ c r.0 = index_unique start p (c r.0) (sym s ∙ e ∙ r.2) in
      leaves r.0 r.1 (subst (λ (q : ℕ). PointsTo start xs q q) same s)

  apart : (p q : ℕ) → p < length xs → q < length xs → at xs p ≡ at xs q → p ≡ q
  apart p q lp lq e = elim (h.others p lp) [
    | inl a ↦ elim (h.others q lq) [
      | inl b ↦
          let r = next a.0 a.1 in
          let s = next b.0 b.1 in
          let same : r.0 ≡ s.0 = h.one r.0 s.0 r.1 s.1 (index_unique start (c r.0) (c s.0) (sym r.2 ∙ ap (at xs) a.2 ∙ e ∙ ap (at xs) (sym b.2) ∙ s.2)) in
          sym a.2 ∙ ap c (next_back a.0 b.0 s.0 (subst (Next a.0) same r.3) s.3) ∙ b.2
      | inr t ↦ absurd (alone q a.0 a.1 t (sym e ∙ ap (at xs) (sym a.2)))
    ]
    | inr s ↦ elim (h.others q lq) [
      | inl b ↦ absurd (alone p b.0 b.1 s (e ∙ ap (at xs) (sym b.2)))
      | inr t ↦ index_unique start p q (sym s ∙ e ∙ t)
    ]
  ]

  different : AllPairs (λ x y. x ≢ y) xs
  different = λ i j d lt hj. λ e. let k = apart i j (omega arith) hj (get_or_default xs i (pos 0) d (omega arith) ∙ e ∙ get_or_default xs j d (pos 0) hj) in absurd (omega arith)

  pub on_cycle : (p : ℕ) → p < length xs → is_moved start xs p ≡ true → (i : ℕ) × (i < m) × (c i ≡ p)
  on_cycle p lt moved = elim (h.others p lt) [ inl r ↦ r | inr s ↦ absurd (moved_leaves start xs p moved s) ]

  pub counted : m ≡ count_below (is_moved start xs) (length xs)
  counted =
      let low = count_injects (is_moved start xs) (length xs) m c h.one (λ i lt. (h.inside i lt, moved_since start xs (c i) (leaves i lt))) in
      let high = count_onto (is_moved start xs) (length xs) m c on_cycle in
      omega arith

  pub ahead : (s : ℕ) (j i : ℕ) → s + j ≡ i → i < m → walked start xs (start +ℤ pos (c s)) j ≡ (start +ℤ pos (c i))
  ahead s zero i e lt = ap (λ (k : ℕ). start +ℤ pos (c k)) (let k : s ≡ i = omega arith in k)
  ahead s (suc j) zero e lt = absurd (omega arith)
  ahead s (suc j) (suc i) e lt = step start xs (start +ℤ pos (c s)) j (c i) (c (suc i)) (ahead s j i (omega arith) (omega arith)) (h.steps i lt)

  pub behind : (s : ℕ) (j k : ℕ) → s < m → s + k ≡ m + j → j < m → walked start xs (start +ℤ pos (c s)) k ≡ (start +ℤ pos (c j))
  behind s j zero ls e lt = absurd (omega arith)
  behind s zero (suc k) ls e lt = step start xs (start +ℤ pos (c s)) k (c (s + k)) (c 0) (ahead s k (s + k) refl (omega arith)) (h.closes (s + k) (omega arith))
  behind s (suc j) (suc k) ls e lt = step start xs (start +ℤ pos (c s)) k (c j) (c (suc j)) (behind s j k ls (omega arith) (omega arith)) (h.steps j lt)

  met : (s j : ℕ) → s < m → j < m → (k : ℕ) × (k < length xs) × (walked start xs (start +ℤ pos (c s)) k ≡ (start +ℤ pos (c j)))
  met s j ls lj =
      let fits = at_most (length xs) m c h.one h.inside in
      elim (cases_lt j s) [
        | inl lt ↦ ((m - s) + j, omega arith, behind s j ((m - s) + j) ls (omega arith) lj)
        | inr ge ↦ (j - s, omega arith, ahead s (j - s) j (omega arith) lj)
      ]

  pub walk_from_cycle : IsWalk start xs
  walk_from_cycle = elim (least (is_moved start xs) (length xs)) [
    | inl r ↦
        let s = on_cycle r.0 r.1 r.2 in
        record {
          inside = inside;
          different = different;
          first = r.0;
          within = r.1;
          moved = r.2;
          still = r.3;
          meets = λ p lt moved. let t = on_cycle p lt moved in let k = met s.0 t.0 s.1 t.1 in
              (k.0, k.1, ap (λ (q : ℕ). walked start xs (start +ℤ pos q) k.0) (sym s.2) ∙ k.2 ∙ ap (λ (q : ℕ). start +ℤ pos q) t.2);
        }
    | inr none ↦ absurd (both_ways (is_moved start xs (c 0)) (none (c 0) (h.inside 0 (let k = h.two in omega arith))) (moved_since start xs (c 0) (leaves 0 (let k = h.two in omega arith))))
  ]

-- a walk is a circuit
module _ (start : ℤ) (xs : List ℤ) (h : IsWalk start xs) where
  abbrev from : ℤ
  from = start +ℤ pos h.first

  leads : (p : ℕ) → p < length xs → (q : ℕ) × (q < length xs) × PointsTo start xs p q
  leads p lt = let r = all_at (IsIndex start (length xs)) xs p (pos 0) h.inside lt in index_place start (length xs) (at xs p) r.0 r.1

  passed : (k : ℕ) → (q : ℕ) × (q < length xs) × (walked start xs from k ≡ (start +ℤ pos q))
  passed zero = (h.first, h.within, refl)
  passed (suc k) = let r = passed k in let t = leads r.0 r.1 in (t.0, t.1, step start xs from k r.0 t.0 r.2 t.2)

  abbrev v : ℕ → ℕ
  v k = (passed k).0

  v_first : v 0 ≡ h.first
  v_first = index_unique start (v 0) h.first (sym (passed 0).2)

  v_step : (k : ℕ) → PointsTo start xs (v k) (v (suc k))
  v_step k = sym (ap (at xs) (ap (place_of start) (passed k).2 ∙ place_of_index start (v k))) ∙ (passed (suc k)).2

  v_same : (i j : ℕ) → v i ≡ v j → v (suc i) ≡ v (suc j)
  v_same i j e = index_unique start (v (suc i)) (v (suc j)) (sym (v_step i) ∙ ap (at xs) e ∙ v_step j)

  one_place : (p q : ℕ) → p < length xs → q < length xs → at xs p ≡ at xs q → p ≡ q
  one_place p q lp lq e = elim (cases_order p q) [
    | inl same ↦ same
    | inr other ↦ elim other [ inl lt ↦ absurd (h.different p q (pos 0) lt lq e) | inr gt ↦ absurd (h.different q p (pos 0) gt lp (sym e)) ]
  ]

  back_one : (i j : ℕ) → v (suc i) ≡ v (suc j) → v i ≡ v j
  back_one i j e = one_place (v i) (v j) (passed i).1 (passed j).1 (v_step i ∙ ap (λ (q : ℕ). start +ℤ pos q) e ∙ sym (v_step j))

  back : (i d j : ℕ) → j ≡ i + d → v i ≡ v j → v 0 ≡ v d
  back zero d j is e = e ∙ ap v (let k : j ≡ d = omega arith in k)
  back (suc i) d zero is e = absurd (omega arith)
  back (suc i) d (suc j) is e = back i d j (omega arith) (back_one i j e)

  abbrev is_home : ℕ → Bool
  is_home k = eqb (v (suc k)) (v 0)

  one_until : (m : ℕ) → ((k : ℕ) → suc k < m → is_home k ≡ false) → OneToOne v m
  one_until m away = one_to_one v m (λ i j lt hj. λ e.
      let k = back i (suc ((j - i) - 1)) j (omega arith) e in
      eqb-false (v (suc ((j - i) - 1))) (v 0) (away ((j - i) - 1) (omega arith)) (sym k))

  round : (last : ℕ) → is_home last ≡ true → (k : ℕ) → (i : ℕ) × (i < suc last) × (v i ≡ v k)
  round last home zero = (0, omega arith, refl)
  round last home (suc k) =
      let r = round last home k in
      elim (cases_eq r.0 last) [
        | inl e ↦ (0, omega arith, sym (eqb-true (v (suc last)) (v 0) home) ∙ ap (λ (i : ℕ). v (suc i)) (sym e) ∙ v_same r.0 k r.2)
        | inr ne ↦ (suc r.0, (let l = r.1 in omega (arith, ne)), v_same r.0 k r.2)
      ]

  cycle_at : (last : ℕ) → is_home last ≡ true → ((k : ℕ) → k < last → is_home k ≡ false) → IsCycle start xs (suc last) v
  cycle_at last home away = record {
    two = elim (cases_eq last 0) [
      | inl e ↦ absurd (moved_leaves start xs (v 0) (ap (is_moved start xs) v_first ∙ h.moved) (v_step 0 ∙ ap (λ (i : ℕ). start +ℤ pos (v (suc i))) (sym e) ∙ ap (λ (q : ℕ). start +ℤ pos q) (eqb-true (v (suc last)) (v 0) home)))
      | inr ne ↦ omega (arith, ne)
    ];
    one = one_until (suc last) (λ k lt. away k (omega arith));
    inside = λ i lt. (passed i).1;
    steps = λ i lt. v_step i;
    closes = λ i e. v_step i ∙ ap (λ (k : ℕ). start +ℤ pos (v k)) e ∙ ap (λ (q : ℕ). start +ℤ pos q) (eqb-true (v (suc last)) (v 0) home);
    others = λ p lt. elim (cases_Bool (is_moved start xs p)) [
      | inl moved ↦
          let k = h.meets p lt moved in
          let r = round last home k.0 in
          inl (r.0, r.1, r.2 ∙ index_unique start (v k.0) p (sym (passed k.0).2 ∙ k.2))
      | inr still ↦ inr (still_stays start xs p still)
    ];
  }

  pub cycle_from_walk : (m : ℕ) × (c : ℕ → ℕ) × IsCycle start xs m c
  cycle_from_walk = elim (least is_home (length xs)) [
    | inl r ↦ (suc r.0, v, cycle_at r.0 r.2 r.3)
    | inr none ↦
        let k = at_most (length xs) (suc (length xs)) v (one_until (suc (length xs)) (λ k lt. none k (omega arith))) (λ i lt. (passed i).1) in
        absurd (omega arith)
  ]

pub circuit_is_walked : CircuitLaw
circuit_is_walked start xs nodes = (
  λ h. let r = cycle_from_circuit start xs nodes h in (walk_from_cycle start xs nodes r.0 r.1, counted start xs nodes r.0 r.1),
  λ h.
      let r = cycle_from_walk start xs h.0 in
      circuit_from_cycle start xs nodes r.1 (subst (λ (m : ℕ). IsCycle start xs m r.1) (counted start xs r.0 r.1 r.2 ∙ sym h.1) r.2),
)
