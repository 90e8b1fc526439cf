-- The meanings of boxes, tasks and circuits at small lists.
use Rattle.std.proofs.Common.{◌≡◌, ◌≢◌, ℕ, zero, suc, ◌+◌, ◌<◌, ◌≤◌, ℤ, pos, negsuc, ◌+ℤ◌, ◌≤ℤ◌, refl, Bool, true, false, if◌then◌else◌, List, [], ◌∷◌, length, slice_index_or, arith, None, Some, ◌⊎◌, inl, inr}
use Rattle.std.specs.List.{AllByRecursion}
use Rattle.std.proofs.lemmas.Int.{ints}
use Rattle.std.proofs.lemmas.Grind.{common_steps}
use Rattle.xs_model.specs.declared.instance.Constraint.{Constraint}
use Rattle.xs_model.specs.declared.instance.Constraint.TheVariants.{NoOverlap, Cumulative, Circuit}
use Rattle.xs_model.specs.declared.term.Cond.TheVariants.{Lt, Le}
use Rattle.xs_model.specs.declared.term.Term.TheVariants.{Int, Var}
use Rattle.xs_model.specs.Counting.{PointsTo}
use Rattle.xs_model.specs.Instance.{Holds}
use Rattle.xs_model.specs.Schedule.{AreApart, Box, IsPlaceOf, IsCircuitOf, load, looked_at, boxes, runs_at}
use Rattle.xs_model.proofs.CircuitLemmas.{each_index}
use Rattle.xs_model.proofs.PairLemmas.{pairs}

-- noOverlap, two boxes of one dimension of length 2
abbrev two_boxes : Constraint
two_boxes = NoOverlap ((0 ∷ []) ∷ (1 ∷ []) ∷ []) ((Int (pos 2) ∷ []) ∷ (Int (pos 2) ∷ []) ∷ []) true

abbrev no_box : Box
no_box = record { origin = []; lengths = [] }

-- one ends where the other begins
touching : Holds two_boxes (pos 2 ∷ pos 0 ∷ [])
touching = pairs AreApart (boxes ((pos 2 ∷ []) ∷ (pos 0 ∷ []) ∷ []) ((pos 2 ∷ []) ∷ (pos 2 ∷ []) ∷ [])) ((inl (inr (omega (arith, ints))), tt), (tt, tt))

overlapping : Holds two_boxes (pos 0 ∷ pos 1 ∷ []) → ⊥
overlapping h = elim (h 0 1 no_box (omega arith) (omega arith)) [
  | inl d ↦ elim d [ inl e ↦ omega (arith, ints, e) | inr e ↦ omega (arith, ints, e) ]
  | inr d ↦ d
]

one_box : Holds (NoOverlap ((0 ∷ []) ∷ []) ((Int (pos 2) ∷ []) ∷ []) true) (pos 3 ∷ [])
one_box = pairs AreApart (boxes ((pos 3 ∷ []) ∷ []) ((pos 2 ∷ []) ∷ [])) (tt, tt)

no_boxes : Holds (NoOverlap [] [] true) []
no_boxes = pairs AreApart [] tt

-- apart in the second dimension alone
above : Holds (NoOverlap ((0 ∷ 1 ∷ []) ∷ (2 ∷ 3 ∷ []) ∷ []) ((Int (pos 2) ∷ Int (pos 1) ∷ []) ∷ (Int (pos 2) ∷ Var 4 ∷ []) ∷ []) true) (pos 0 ∷ pos 0 ∷ pos 1 ∷ pos 1 ∷ pos 3 ∷ [])
above = pairs AreApart (boxes ((pos 0 ∷ pos 0 ∷ []) ∷ (pos 1 ∷ pos 1 ∷ []) ∷ []) ((pos 2 ∷ pos 1 ∷ []) ∷ (pos 2 ∷ pos 3 ∷ []) ∷ [])) ((inr (inl (inl (omega (arith, ints)))), tt), (tt, tt))

-- a box with a length of 0 is passed over
passed_over : looked_at true (boxes ((pos 1 ∷ []) ∷ (pos 1 ∷ []) ∷ []) ((pos 0 ∷ []) ∷ (pos 4 ∷ []) ∷ [])) ≡ record { origin = pos 1 ∷ []; lengths = pos 4 ∷ [] } ∷ []
passed_over = refl

-- a box without length in the midst of another
abbrev within : Bool → Constraint
within ignored = NoOverlap ((0 ∷ []) ∷ (1 ∷ []) ∷ []) ((Int (pos 0) ∷ []) ∷ (Int (pos 4) ∷ []) ∷ []) ignored

ignored : Holds (within true) (pos 1 ∷ pos 0 ∷ [])
ignored = pairs AreApart (boxes ((pos 0 ∷ []) ∷ []) ((pos 4 ∷ []) ∷ [])) (tt, tt)

not_ignored : Holds (within false) (pos 1 ∷ pos 0 ∷ []) → ⊥
not_ignored h = elim (h 0 1 no_box (omega arith) (omega arith)) [
  | inl d ↦ elim d [ inl e ↦ omega (arith, ints, e) | inr e ↦ omega (arith, ints, e) ]
  | inr d ↦ d
]

-- cumulative: a task runs at its start and not at its end
at_start : runs_at (pos 3) (pos 3) (pos 2) ≡ true
at_start = refl

at_end : runs_at (pos 5) (pos 3) (pos 2) ≡ false
at_end = refl

loads : load (pos 1) (pos 0 ∷ pos 0 ∷ pos 3 ∷ []) (pos 3 ∷ pos 2 ∷ pos 2 ∷ []) (pos 1 ∷ pos 1 ∷ pos 2 ∷ []) ≡ pos 2
loads = refl

-- a time at which no task runs is asked too
idle : Holds (Cumulative (0 ∷ []) (Int (pos 0) ∷ []) (Int (pos 1) ∷ []) None (Le (Int (negsuc 0)))) (pos 0 ∷ []) → ⊥
idle h = let at_zero = h.0 (pos 0) in omega (arith, ints, at_zero)

idle_of_none : Holds (Cumulative [] [] [] None (Lt (Int (pos 0)))) [] → ⊥
idle_of_none h = let at_zero = h.0 (pos 0) in omega (arith, ints, at_zero)

none_run : Holds (Cumulative [] [] [] None (Le (Int (pos 0)))) []
none_run = (λ t. omega (arith, ints), tt)

-- one task of height 1
abbrev one_task : Constraint
one_task = Cumulative (0 ∷ []) (Int (pos 2) ∷ []) (Int (pos 1) ∷ []) (Some (1 ∷ [])) (Le (Int (pos 1)))

single : (b : Bool) → ((if b then pos 1 else pos 0) +ℤ pos 0) ≤ℤ pos 1
single true = omega (arith, ints)
single false = omega (arith, ints)

one_runs : Holds one_task (pos 4 ∷ pos 6 ∷ [])
one_runs = (λ t. single (runs_at t (pos 4) (pos 2)), (refl, tt))

wrong_end : Holds one_task (pos 4 ∷ pos 7 ∷ []) → ⊥
wrong_end h = omega (arith, ints, h.1.0)

too_much : Holds (Cumulative (0 ∷ 1 ∷ []) (Int (pos 2) ∷ Int (pos 2) ∷ []) (Int (pos 1) ∷ Int (pos 1) ∷ []) None (Le (Int (pos 1)))) (pos 0 ∷ pos 1 ∷ []) → ⊥
too_much h = let at_one = h.0 (pos 1) in omega (arith, ints, at_one)

-- three tasks, of which the third begins where the first ends
abbrev three_tasks : Constraint
three_tasks = Cumulative (0 ∷ 1 ∷ 2 ∷ []) (Int (pos 3) ∷ Int (pos 2) ∷ Int (pos 2) ∷ []) (Int (pos 1) ∷ Int (pos 1) ∷ Int (pos 2) ∷ []) None (Le (Int (pos 2)))

abbrev three_load : Bool → Bool → Bool → ℤ
three_load b c d = (if b then pos 1 else pos 0) +ℤ ((if c then pos 1 else pos 0) +ℤ ((if d then pos 2 else pos 0) +ℤ pos 0))

at_most_two : (b c d : Bool) → (b ≡ true → d ≡ true → ⊥) → (c ≡ true → d ≡ true → ⊥) → three_load b c d ≤ℤ pos 2
at_most_two true true true h k = absurd (h refl refl)
at_most_two true true false h k = omega (arith, ints)
at_most_two true false true h k = absurd (h refl refl)
at_most_two true false false h k = omega (arith, ints)
at_most_two false true true h k = absurd (k refl refl)
at_most_two false true false h k = omega (arith, ints)
at_most_two false false true h k = omega (arith, ints)
at_most_two false false false h k = omega (arith, ints)

apart_in_time : (t s l : ℤ) → (s +ℤ l) ≤ℤ pos 3 → runs_at t s l ≡ true → runs_at t (pos 3) (pos 2) ≡ true → ⊥
apart_in_time t s l le e f = grind (arith, ints, common_steps)

three_run : Holds three_tasks (pos 0 ∷ pos 0 ∷ pos 3 ∷ [])
three_run = (λ t. at_most_two (runs_at t (pos 0) (pos 3)) (runs_at t (pos 0) (pos 2)) (runs_at t (pos 3) (pos 2)) (apart_in_time t (pos 0) (pos 3) (omega (arith, ints))) (apart_in_time t (pos 0) (pos 2) (omega (arith, ints))), tt)

three_run_too_early : Holds three_tasks (pos 0 ∷ pos 0 ∷ pos 2 ∷ []) → ⊥
three_run_too_early h = let at_two = h.0 (pos 2) in omega (arith, ints, at_two)

-- circuit: 1 0 2 3 is one of two nodes
two_apart : (i j d : ℕ) → i < j → j < 2 → slice_index_or (0 ∷ 1 ∷ []) i d ≢ slice_index_or (0 ∷ 1 ∷ []) j d
two_apart = pairs (λ p q. p ≢ q) (0 ∷ 1 ∷ []) ((λ e. omega (arith, e), tt), (tt, tt))

others : (p : ℕ) → p < 4 → IsPlaceOf (0 ∷ 1 ∷ []) p ⊎ PointsTo (pos 0) (pos 1 ∷ pos 0 ∷ pos 2 ∷ pos 3 ∷ []) p p
others zero lt = inl (inl refl)
others (suc zero) lt = inl (inr (inl refl))
others (suc (suc zero)) lt = inr refl
others (suc (suc (suc zero))) lt = inr refl
others (suc (suc (suc (suc p)))) lt = absurd (omega (arith, lt))

two_nodes : Holds (Circuit (0 ∷ 1 ∷ 2 ∷ 3 ∷ []) (pos 0) None) (pos 1 ∷ pos 0 ∷ pos 2 ∷ pos 3 ∷ [])
two_nodes = (
  2,
  (
    record {
      first = 0;
      rest = 1 ∷ [];
      circuit = record { two = omega arith; distinct = two_apart; leads = (refl, (refl, tt)) };
      inside = (omega arith, (omega arith, tt));
      others = others;
      count = refl;
    },
    tt,
  ),
)

-- where every place points to itself there is no circuit
to_itself : (p q : ℕ) → p < 4 → PointsTo (pos 0) (pos 0 ∷ pos 1 ∷ pos 2 ∷ pos 3 ∷ []) p q → p ≡ q
to_itself zero q lt e = omega (arith, ints, e)
to_itself (suc zero) q lt e = omega (arith, ints, e)
to_itself (suc (suc zero)) q lt e = omega (arith, ints, e)
to_itself (suc (suc (suc zero))) q lt e = omega (arith, ints, e)
to_itself (suc (suc (suc (suc p)))) q lt e = absurd (omega (arith, lt))

no_moves : (p : ℕ) (rest : List ℕ) → p < 4 → IsCircuitOf (pos 0) (pos 0 ∷ pos 1 ∷ pos 2 ∷ pos 3 ∷ []) p rest → ⊥
no_moves p [] lt c = omega (arith, c.two)
no_moves p (q ∷ rest) lt c = c.distinct 0 1 0 (omega arith) (omega arith) (to_itself p q lt c.leads.0)

no_circuit : Holds (Circuit (0 ∷ 1 ∷ 2 ∷ 3 ∷ []) (pos 0) None) (pos 0 ∷ pos 1 ∷ pos 2 ∷ pos 3 ∷ []) → ⊥
no_circuit h = let c = h.1.0 in no_moves c.first c.rest c.inside.0 c.circuit

-- 1 0 3 2 is two circuits
abbrev crossed : List ℤ
crossed = pos 1 ∷ pos 0 ∷ pos 3 ∷ pos 2 ∷ []

partner : (p q : ℕ) → p < 4 → PointsTo (pos 0) crossed p q → ((p ≤ 1) × (p + q ≡ 1)) ⊎ ((2 ≤ p) × (p + q ≡ 5))
partner zero q lt e = inl (omega arith, omega (arith, ints, e))
partner (suc zero) q lt e = inl (omega arith, omega (arith, ints, e))
partner (suc (suc zero)) q lt e = inr (omega arith, omega (arith, ints, e))
partner (suc (suc (suc zero))) q lt e = inr (omega arith, omega (arith, ints, e))
partner (suc (suc (suc (suc p)))) q lt e = absurd (omega (arith, lt))

-- a place that neither stands in a circuit of two places nor points to itself
left_out : (p f g : ℕ) → p < 4 → p ≢ f → p ≢ g → IsPlaceOf (f ∷ g ∷ []) p ⊎ PointsTo (pos 0) crossed p p → ⊥
left_out p f g lt d e h = elim h [
  | inl o ↦ elim o [ inl i ↦ d i | inr o ↦ elim o [ inl i ↦ e i | inr i ↦ i ] ]
  | inr i ↦ elim (partner p p lt i) [ inl s ↦ omega (arith, s.1) | inr s ↦ omega (arith, s.1) ]
]

crossed_none : (f : ℕ) (rest : List ℕ) → AllByRecursion (λ p. p < 4) (f ∷ rest) → IsCircuitOf (pos 0) crossed f rest
    → ((p : ℕ) → p < 4 → IsPlaceOf (f ∷ rest) p ⊎ PointsTo (pos 0) crossed p p) → ⊥
crossed_none f [] lt c o = omega (arith, c.two)
crossed_none f (g ∷ []) lt c o = elim (partner f g lt.0 c.leads.0) [
  | inl s ↦ left_out 2 f g (omega arith) (λ e. omega (arith, e, s.0)) (λ e. omega (arith, e, s.1)) (o 2 (omega arith))
  | inr s ↦ left_out 0 f g (omega arith) (λ e. omega (arith, e, s.0)) (λ e. omega (arith, e, s.0, s.1, lt.0)) (o 0 (omega arith))
]
crossed_none f (g ∷ r ∷ rest) lt c o = elim (partner f g lt.0 c.leads.0) [
  | inl s ↦ elim (partner g r lt.1.0 c.leads.1.0) [
    | inl t ↦ c.distinct 0 2 0 (omega arith) (omega arith) (omega (arith, s.1, t.1))
    | inr t ↦ omega (arith, s.1, t.0)
  ]
  | inr s ↦ elim (partner g r lt.1.0 c.leads.1.0) [
    | inl t ↦ omega (arith, s.1, t.0, lt.0)
    | inr t ↦ c.distinct 0 2 0 (omega arith) (omega arith) (omega (arith, s.1, t.1))
  ]
]

two_circuits : Holds (Circuit (0 ∷ 1 ∷ 2 ∷ 3 ∷ []) (pos 0) None) crossed → ⊥
two_circuits h = let c = h.1.0 in crossed_none c.first c.rest c.inside c.circuit c.others

-- a place that points to itself is no circuit, nor is an empty list
one_place : (f : ℕ) (rest : List ℕ) → f < 1 → AllByRecursion (λ p. p < 1) rest → IsCircuitOf (pos 0) (pos 0 ∷ []) f rest → ⊥
one_place f [] lt all c = omega (arith, c.two)
one_place f (g ∷ rest) lt all c = c.distinct 0 1 0 (omega arith) (omega arith) (omega (arith, lt, all.0))

one_node : Holds (Circuit (0 ∷ []) (pos 0) None) (pos 0 ∷ []) → ⊥
one_node h = let c = h.1.0 in one_place c.first c.rest c.inside.0 c.inside.1 c.circuit

no_nodes : Holds (Circuit [] (pos 0) None) [] → ⊥
no_nodes h = let c = h.1.0 in omega (arith, c.inside.0)

-- 1 0 7: the third value is no index
index_of : (q : ℕ) → q < 3 → pos 7 ≡ (pos 0 +ℤ pos q) → ⊥
index_of q lt e = omega (arith, ints, lt, e)

no_index : Holds (Circuit (0 ∷ 1 ∷ 2 ∷ []) (pos 0) None) (pos 1 ∷ pos 0 ∷ pos 7 ∷ []) → ⊥
no_index h =
    let third = each_index (pos 0) (pos 1 ∷ pos 0 ∷ pos 7 ∷ []) h.0 h.1.0 2 (omega arith) in
    index_of third.0 third.1 third.2

-- with the size of the circuit, and counted from 1
circuit_of_two : Holds (Circuit (0 ∷ 1 ∷ []) (pos 1) (Some (Int (pos 2)))) (pos 2 ∷ pos 1 ∷ [])
circuit_of_two = (
  2,
  (
    record {
      first = 0;
      rest = 1 ∷ [];
      circuit = record { two = omega arith; distinct = two_apart; leads = (refl, (refl, tt)) };
      inside = (omega arith, (omega arith, tt));
      others = each;
      count = refl;
    },
    refl,
  ),
)
  where
    each : (p : ℕ) → p < 2 → IsPlaceOf (0 ∷ 1 ∷ []) p ⊎ PointsTo (pos 1) (pos 2 ∷ pos 1 ∷ []) p p
    each zero lt = inl (inl refl)
    each (suc zero) lt = inl (inr (inl refl))
    each (suc (suc p)) lt = absurd (omega (arith, lt))

-- no circuit over two places has three nodes
not_three : (f : ℕ) (rest : List ℕ) → f < 2 → AllByRecursion (λ p. p < 2) rest → IsCircuitOf (pos 0) (pos 1 ∷ pos 0 ∷ []) f rest → length (f ∷ rest) ≡ 3 → ⊥
not_three f [] lt all c n = omega (arith, n)
not_three f (g ∷ []) lt all c n = omega (arith, n)
not_three f (g ∷ r ∷ rest) lt all c n =
    let d : f ≢ g = c.distinct 0 1 0 (omega arith) (omega arith) in
    let e : f ≢ r = c.distinct 0 2 0 (omega arith) (omega arith) in
    let k : g ≢ r = c.distinct 1 2 0 (omega arith) (omega arith) in
    omega (arith, lt, all.0, all.1.0, d, e, k)

wrong_size : Holds (Circuit (0 ∷ 1 ∷ []) (pos 0) (Some (Var 2))) (pos 1 ∷ pos 0 ∷ pos 3 ∷ []) → ⊥
wrong_size h = let c = h.1.0 in not_three c.first c.rest c.inside.0 c.inside.1 c.circuit (omega (arith, ints, c.count, h.1.1))
