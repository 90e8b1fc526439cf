-- A circuit as a walk that goes round.
use Rattle.std.proofs.Common.{◌≡◌, ◌≢◌, ◌↔◌, ℕ, zero, suc, ◌+◌, ◌-◌, ◌<◌, ◌≤◌, inl, inr, ℤ, pos, ◌+ℤ◌, Bool, true, false, not, ◌&&◌, List, length, Option, None, Some, refl, ap, sym, ◌∙◌, subst, arith, eqb}
use Rattle.std.specs.Prelude.{nat_lt}
use Rattle.std.specs.List.{list_all, range_with_len, position_or_len}
use Rattle.std.specs.Ordering.{int_eq}
use Rattle.std.proofs.lemmas.Bool.{cases_Bool, cases_eq, cases_lt, and_parts, and_from, eqb-true, eqb-false, ltb-true, lt-ltb, not-true, not_from_false}
use Rattle.std.proofs.lemmas.Bool.Decides.{Decides-int_eq}
use Rattle.std.proofs.lemmas.List.FromFn.{get_or-range_with_len, length-range_with_len}
use Rattle.std.proofs.lemmas.List.Sums.{position_or_len_is}
use Rattle.xs_model.specs.declared.term.Term.{Term}
use Rattle.xs_model.specs.Counting.{PointsTo}
use Rattle.xs_model.specs.Instance.{IsSizeOf}
use Rattle.xs_model.specs.Schedule.{IsCircuit}
use Rattle.xs_model.specs.Value.{at, sum_of}
use Rattle.xs_laws.specs.Indices.{IsIndex, is_index, place_of, bits_below}
use Rattle.xs_laws.proofs.Indices.{index_is_tested}
use Rattle.xs_laws.proofs.Distinct.{places_sum}
use Rattle.xs_laws.proofs.Finite.{OneToOne, one_to_one, put, put_cases, count_injects, least}
use Rattle.xs_laws.proofs.Neighbours.{differ}
use Rattle.xs_laws.proofs.Places.{all_at, index_unique, index_place, place_of_index}
use Rattle.xs_laws.proofs.Somes.{all_map, all_says, all_met}
use Rattle.xs_paths.specs.Walk.{is_moved, walked, moved_places}
use Rattle.xs_paths.specs.Round.{returns_after, goes_round, IsRound, RoundLaw, first_moved, is_circuit, CircuitTestLaw, IsSizeSum, CircuitSizeLaw}
use Rattle.xs_paths.proofs.Cycle.{IsCycle, cycle_from_circuit, circuit_from_cycle}
use Rattle.xs_paths.proofs.Circuit.{moved_leaves, still_stays, moved_since, step, walk_from_cycle, counted, on_cycle, ahead, behind}
use Rattle.xs_paths.proofs.Steps.{walked_on, circuit_is_stepped}

-- a walk that is home after n steps and not before
module _ (start : ℤ) (xs : List ℤ) (home : ℤ) where
  returns_says : (w : ℤ) (n : ℕ) → returns_after start xs home w n ≡ true → (walked start xs w n ≡ home) × ((k : ℕ) → k < n → walked start xs w k ≢ home)
  returns_says w zero h = ((Decides-int_eq w home).0 h, λ k lt. absurd (omega arith))
  returns_says w (suc n) h =
      let r = and_parts (not (int_eq w home)) (returns_after start xs home (at xs (place_of start w)) n) h in
      let rest = returns_says (at xs (place_of start w)) n r.1 in
      (sym (walked_on start xs w n) ∙ rest.0, early ((differ w home).1 (not-true (int_eq w home) r.0)) rest.1)
    where
      early : (w ≢ home) → ((k : ℕ) → k < n → walked start xs (at xs (place_of start w)) k ≢ home) → (k : ℕ) → k < suc n → walked start xs w k ≢ home
      early ne f zero lt e = ne e
      early ne f (suc k) lt e = f k (omega arith) (walked_on start xs w k ∙ e)

  returns_from : (w : ℤ) (n : ℕ) → walked start xs w n ≡ home → ((k : ℕ) → k < n → walked start xs w k ≢ home) → returns_after start xs home w n ≡ true
  returns_from w zero e f = (Decides-int_eq w home).1 e
  returns_from w (suc n) e f =
      and_from (not (int_eq w home)) (returns_after start xs home (at xs (place_of start w)) n) (not_from_false (int_eq w home) ((differ w home).0 (f 0 (omega arith))))
      (returns_from (at xs (place_of start w)) n (walked_on start xs w n ∙ e) (λ k lt g. f (suc k) (omega arith) (sym (walked_on start xs w k) ∙ g)))

-- a circuit goes round
module _ (start : ℤ) (xs : List ℤ) (m : ℕ) (c : ℕ → ℕ) (h : IsCycle start xs m c) where
  away : (s k : ℕ) → s < m → 0 < k → k < m → walked start xs (start +ℤ pos (c s)) k ≢ (start +ℤ pos (c s))
  away s k ls some lt e = elim (cases_lt (s + k) m) [
    | inl before ↦
        let same : s + k ≡ s = h.one (s + k) s before ls (index_unique start (c (s + k)) (c s) (sym (ahead start xs m c h s k (s + k) refl before) ∙ e)) in omega arith
    | inr past ↦
        let j = (s + k) - m in
        let lj : j < m = omega arith in
        let same : j ≡ s = h.one j s lj ls (index_unique start (c j) (c s) (sym (behind start xs m c h s j k ls (omega arith) lj) ∙ e)) in omega arith
  ]

  first_step : (p : ℕ) → walked start xs (start +ℤ pos p) 1 ≡ at xs p
  first_step p = ap (at xs) (place_of_index start p)

  round_from : (p : ℕ) (n : ℕ) → suc n ≡ m → p < length xs → is_moved start xs p ≡ true → returns_after start xs (start +ℤ pos p) (at xs p) n ≡ true
  round_from p n is lt moved =
      let s = on_cycle start xs m c h p lt moved in
      let turn : (k : ℕ) → walked start xs (at xs p) k ≡ walked start xs (start +ℤ pos p) (suc k)
      = λ k. ap (λ (w : ℤ). walked start xs w k) (sym (first_step p)) ∙ walked_on start xs (start +ℤ pos p) k in
      let at_p : (k : ℕ) → walked start xs (start +ℤ pos (c s.0)) k ≡ walked start xs (start +ℤ pos p) k = λ k. ap (λ (q : ℕ). walked start xs (start +ℤ pos q) k) s.2 in
      let home : (start +ℤ pos (c s.0)) ≡ (start +ℤ pos p) = ap (λ (q : ℕ). start +ℤ pos q) s.2 in
      returns_from start xs (start +ℤ pos p) (at xs p) n
      (turn n ∙ ap (walked start xs (start +ℤ pos p)) is ∙ sym (at_p m) ∙ behind start xs m c h s.0 s.0 m s.1 (omega arith) s.1 ∙ home)
      (λ k lk e. away s.0 (suc k) s.1 (omega arith) (omega arith) (at_p (suc k) ∙ sym (turn k) ∙ e ∙ sym home))

round_of : (start : ℤ) (xs : List ℤ) (nodes : ℕ) → IsCircuit start xs nodes → IsRound start xs nodes
round_of start xs nodes h =
    let r = cycle_from_circuit start xs nodes h in
    let walk = walk_from_cycle start xs nodes r.0 r.1 in
    record {
      inside = walk.inside;
      first = walk.first;
      within = walk.within;
      moved = walk.moved;
      still = walk.still;
      round = round_from start xs nodes r.0 r.1 walk.first (nodes - 1) (let k = r.1.two in omega arith) walk.within walk.moved;
      count = counted start xs nodes r.0 r.1;
    }

-- what goes round is a circuit
module _ (start : ℤ) (xs : List ℤ) (nodes : ℕ) (h : IsRound start xs nodes) where
  abbrev home : ℤ
  home = start +ℤ pos h.first

  leads_to : (p : ℕ) → p < length xs → (q : ℕ) × (q < length xs) × PointsTo start xs p q
  leads_to p lt = let r = all_at (IsIndex start (length xs)) xs p (pos 0) h.inside lt in index_place start (length xs) (at xs p) r.0 r.1

  met_at : (k : ℕ) → (q : ℕ) × (q < length xs) × (walked start xs home k ≡ (start +ℤ pos q))
  met_at zero = (h.first, h.within, refl)
  met_at (suc k) = let r = met_at k in let t = leads_to r.0 r.1 in (t.0, t.1, step start xs home k r.0 t.0 r.2 t.2)

  abbrev v : ℕ → ℕ
  v k = (met_at k).0

  v_first : v 0 ≡ h.first
  v_first = index_unique start (v 0) h.first (sym (met_at 0).2)

  v_step : (k : ℕ) → PointsTo start xs (v k) (v (suc k))
  v_step k = sym (ap (at xs) (ap (place_of start) (met_at k).2 ∙ place_of_index start (v k))) ∙ (met_at (suc k)).2

  v_same : (i j d : ℕ) → v i ≡ v j → v (i + d) ≡ v (j + d)
  v_same i j zero e = ap v (let k : i + 0 ≡ i = omega arith in k) ∙ e ∙ ap v (let k : j ≡ j + 0 = omega arith in k)
  v_same i j (suc d) e =
      let a : i + suc d ≡ suc (i + d) = omega arith in
      let b : suc (j + d) ≡ j + suc d = omega arith in
      let before = v_same i j d e in
      ap v a ∙ index_unique start (v (suc (i + d))) (v (suc (j + d))) (sym (v_step (i + d)) ∙ ap (at xs) before ∙ v_step (j + d)) ∙ ap v b

  abbrev last : ℕ
  last = nodes - 1

  turned : (k : ℕ) → walked start xs (at xs h.first) k ≡ (start +ℤ pos (v (suc k)))
  turned k = ap (λ (w : ℤ). walked start xs w k) (sym (ap (at xs) (place_of_index start h.first))) ∙ walked_on start xs home k ∙ (met_at (suc k)).2

  v_home : v (suc last) ≡ v 0
  v_home = index_unique start (v (suc last)) (v 0) (sym (turned last) ∙ (returns_says start xs home (at xs h.first) last h.round).0 ∙ (met_at 0).2)

  v_away : (k : ℕ) → k < last → v (suc k) ≢ v 0
  v_away k lt e = (returns_says start xs home (at xs h.first) last h.round).1 k lt (turned k ∙ ap (λ (q : ℕ). start +ℤ pos q) (e ∙ v_first))

  leaves_first : v 1 ≢ v 0
  leaves_first e = moved_leaves start xs h.first h.moved (subst (λ (p : ℕ). PointsTo start xs p p) v_first (subst (PointsTo start xs (v 0)) e (v_step 0)))

  two_at_least : 1 ≤ last
  two_at_least = elim (cases_lt 0 last) [ inl lt ↦ lt | inr ge ↦ absurd (leaves_first (ap v (let k : 1 ≡ suc last = omega arith in k) ∙ v_home)) ]

  v_one : OneToOne v (suc last)
  v_one = one_to_one v (suc last) (λ i j lt hj e.
      let d = suc last - j in
      let k = (i + d) - 1 in
      let a : suc k ≡ i + d = omega arith in
      let b : j + d ≡ suc last = omega arith in
      v_away k (omega arith) (ap v a ∙ v_same i j d e ∙ ap v b ∙ v_home))

  v_moved : (i : ℕ) → i < suc last → is_moved start xs (v i) ≡ true
  v_moved i lt = moved_since start xs (v i) (λ stays.
      let same : v i ≡ v (suc i) = index_unique start (v i) (v (suc i)) (sym stays ∙ v_step i) in
      let two = two_at_least in
      elim (cases_eq i last) [
        | inl e ↦ let k = v_one i 0 lt (omega arith) (same ∙ ap (λ (j : ℕ). v (suc j)) e ∙ v_home) in omega arith
        | inr ne ↦ let k = v_one i (suc i) lt (omega (arith, ne)) same in omega arith
      ])

  full : suc last ≡ nodes
  full = let two = two_at_least in omega arith

  on_it : (p : ℕ) → p < length xs → is_moved start xs p ≡ true → (i : ℕ) × (i < suc last) × (v i ≡ p)
  on_it p lt moved = elim (least (λ i. eqb (v i) p) (suc last)) [
    | inl r ↦ (r.0, r.1, eqb-true (v r.0) p r.2)
    | inr none ↦ absurd (
        let f = put v (suc last) p in
        let one : OneToOne f (suc (suc last)) = one_to_one f (suc (suc last)) (λ i j li hj e.
        elim (put_cases v (suc last) p i) [
          | inl a ↦ let k = a.0 in omega arith
          | inr a ↦ elim (put_cases v (suc last) p j) [
            | inl b ↦ eqb-false (v i) p (none i (omega (arith, a.0))) (sym a.1 ∙ e ∙ b.1)
            | inr b ↦ let k = v_one i j (omega (arith, a.0)) (omega (arith, b.0)) (sym a.1 ∙ e ∙ b.1) in omega arith
          ]
        ]) in
        let passing : (i : ℕ) → i < suc (suc last) → (f i < length xs) × (is_moved start xs (f i) ≡ true) = λ i li.
        elim (put_cases v (suc last) p i) [
          | inl a ↦ ((let k = a.1 in omega arith), ap (is_moved start xs) a.1 ∙ moved)
          | inr a ↦ ((let k = a.1 in let l = (met_at i).1 in omega arith), ap (is_moved start xs) a.1 ∙ v_moved i (omega (arith, a.0)))
        ] in
        let many = count_injects (is_moved start xs) (length xs) (suc (suc last)) f one passing in
        let count = h.count in
        let whole = full in omega arith)
  ]

  cycle_round : IsCycle start xs (suc last) v
  cycle_round = record {
    two = (let two = two_at_least in omega arith);
    one = v_one;
    inside = λ i lt. (met_at i).1;
    steps = λ i lt. v_step i;
    closes = λ i e. v_step i ∙ ap (λ (k : ℕ). start +ℤ pos (v k)) e ∙ ap (λ (q : ℕ). start +ℤ pos q) v_home;
    others = λ p lt. elim (cases_Bool (is_moved start xs p)) [ inl moved ↦ inl (on_it p lt moved) | inr still ↦ inr (still_stays start xs p still) ];
  }

  circuit_round : IsCircuit start xs nodes
  circuit_round = circuit_from_cycle start xs nodes v (subst (λ (m : ℕ). IsCycle start xs m v) full cycle_round)

pub circuit_goes_round : RoundLaw
circuit_goes_round start xs nodes = (round_of start xs nodes, circuit_round start xs nodes)

-- the test
first_at : (f : ℕ → Bool) (n i : ℕ) → i ≤ n → ((k : ℕ) → k < i → f k ≡ false) → (i < n → f i ≡ true) → position_or_len f (range_with_len 0 n) ≡ i
first_at f n i le before here =
    let long = length-range_with_len 0 n in
    position_or_len_is f (range_with_len 0 n) i 0 (omega (arith, long)) (λ k lt. ap f (get_or-range_with_len 0 n k 0 (omega arith) ∙ (omega arith)) ∙ before k lt)
    (λ lt. ap f (get_or-range_with_len 0 n i 0 (omega (arith, long)) ∙ (omega arith)) ∙ here (omega (arith, long)))

module _ (start : ℤ) (xs : List ℤ) where
  test_of : (nodes : ℕ) → IsRound start xs nodes → is_circuit start xs ≡ true
  test_of nodes h =
      let e : first_moved start xs ≡ h.first = first_at (is_moved start xs) (length xs) h.first (let k = h.within in omega arith) h.still (λ lt. h.moved) in
      and_from (list_all (is_index start (length xs)) xs) (nat_lt (first_moved start xs) (length xs) && goes_round start xs (first_moved start xs) (moved_places start xs))
      (all_met (is_index start (length xs)) xs (all_map (IsIndex start (length xs)) (λ i. is_index start (length xs) i ≡ true) xs (λ i. (index_is_tested start (length xs) i).0) h.inside))
      (and_from (nat_lt (first_moved start xs) (length xs)) (goes_round start xs (first_moved start xs) (moved_places start xs))
      (lt-ltb (first_moved start xs) (length xs) (let k = h.within in omega (arith, e)))
      (ap (λ (p : ℕ). goes_round start xs p (moved_places start xs)) e ∙ ap (goes_round start xs h.first) (sym h.count) ∙ h.round))

  of_test : is_circuit start xs ≡ true → IsRound start xs (moved_places start xs)
  of_test h =
      let r = and_parts (list_all (is_index start (length xs)) xs) (nat_lt (first_moved start xs) (length xs) && goes_round start xs (first_moved start xs) (moved_places start xs)) h in
      let s = and_parts (nat_lt (first_moved start xs) (length xs)) (goes_round start xs (first_moved start xs) (moved_places start xs)) r.1 in
      let within = ltb-true (first_moved start xs) (length xs) s.0 in
      elim (least (is_moved start xs) (length xs)) [
        | inl f ↦
            let e : first_moved start xs ≡ f.0 = first_at (is_moved start xs) (length xs) f.0 (let k = f.1 in omega arith) f.3 (λ lt. f.2) in
            record {
              inside = all_map (λ i. is_index start (length xs) i ≡ true) (IsIndex start (length xs)) xs (λ i. (index_is_tested start (length xs) i).1) (all_says (is_index start (length xs)) xs r.0);
              first = f.0;
              within = f.1;
              moved = f.2;
              still = f.3;
              round = ap (λ (p : ℕ). goes_round start xs p (moved_places start xs)) (sym e) ∙ s.1;
              count = refl;
            }
        | inr none ↦ absurd (
            let e = first_at (is_moved start xs) (length xs) (length xs) (omega arith) none (λ lt. absurd (omega arith)) in omega (arith, within, e))
      ]

pub circuit_is_tested : CircuitTestLaw
circuit_is_tested a start xs size = (
  λ h.
      let r = round_of start xs h.0 h.1.0 in
      (test_of start xs h.0 r, subst (IsSizeOf a size) r.count h.1.1),
  λ h. (moved_places start xs, (circuit_round start xs (moved_places start xs) (of_test start xs h.0), h.1)),
)

sized : (a : List ℤ) (size : Option Term) (n : ℕ) (s : ℤ) → s ≡ pos n → IsSizeOf a size n ↔ IsSizeSum a size s
sized a None n s e = (λ h. tt, λ h. tt)
sized a (Some t) n s e = (λ h. e ∙ h, λ h. sym e ∙ h)

pub circuit_has_size : CircuitSizeLaw
circuit_has_size a start xs size =
    let total = sum_of (bits_below (is_moved start xs) (length xs)) in
    let sum : total ≡ pos (moved_places start xs) = sym (places_sum (is_moved start xs) (length xs)) in (
      λ h.
          let g = (circuit_is_stepped start xs h.0).0 h.1.0 in
          (g.0, (sized a size h.0 total g.1).0 h.1.1),
      λ h. (moved_places start xs, ((circuit_is_stepped start xs (moved_places start xs)).1 (h.0, sum), (sized a size (moved_places start xs) total sum).1 h.1)),
    )
