-- The walk of a circuit by its steps, each to the member at a place that is counted from 1.
use Rattle.std.proofs.Common.{◌≡◌, ℕ, suc, ◌+◌, ◌-◌, ◌<◌, ℤ, pos, ◌+ℤ◌, ◌-ℤ◌, ◌≤ℤ◌, true, Option, List, [], ◌∷◌, length, refl, ap, sym, subst, ◌∙◌, arith}
use Rattle.std.specs.Prelude.{get_or, nat_abs, ◌<ℤ◌}
use Rattle.std.specs.List.{AllByRecursion, list_any, range_with_len}
use Rattle.std.specs.Ordering.{int_eq}
use Rattle.std.proofs.lemmas.Int.{ints}
use Rattle.std.proofs.lemmas.List.FromFn.{length-range_with_len, get_or-range_with_len}
use Rattle.lo_circuits.proofs.Chained.{scan, Stated}
use Rattle.lo_rules.proofs.Integers.{member_at, IsPlace}
use Rattle.xs_laws.specs.Indices.{IsIndex, place_of, bits_below}
use Rattle.xs_laws.proofs.Places.{all_at, all_of, index_place, place_of_index}
use Rattle.xs_model.specs.declared.term.Term.{Term as Operand}
use Rattle.xs_model.specs.Comparing.{AreDifferent}
use Rattle.xs_model.specs.Instance.{IsSizeOf}
use Rattle.xs_model.specs.Schedule.{IsCircuit}
use Rattle.xs_model.specs.Value.{at, sum_of}
use Rattle.xs_paths.specs.Round.{IsSizeSum}
use Rattle.xs_paths.specs.Steps.{is_seen, walk, first_index, IsStepped}
use Rattle.xs_paths.specs.Walk.{is_moved}
use Rattle.xs_paths.proofs.Round.{circuit_has_size}
use Rattle.xs_paths.proofs.Steps.{walk_is_inside}

-- the place of an index, and the step from it
abbrev pub place : ℤ → ℤ → ℤ
place start w = (w -ℤ start) +ℤ pos 1

abbrev pub step : {X : Type 0} → ℤ → List ℤ → ℤ → X → ℤ
step start us w x = member_at us (place start w)

-- what the call of a step asks for, where there are k indices
abbrev pub Asks : {X : Type 0} → ℤ → ℕ → List ℤ → ℤ → X → Type 0
Asks start k us w x = IsPlace us (place start w) × (start ≤ℤ member_at us (place start w)) × (member_at us (place start w) ≤ℤ ((start +ℤ pos k) -ℤ pos 1))

-- the indices from w on
abbrev pub stride : {X : Type 0} → ℤ → List ℤ → ℤ → List X → List ℤ
stride start us w xs = w ∷ scan (step start us) w xs

-- the first index of a moved place of k
abbrev pub first_of : ℤ → ℕ → List ℤ → ℤ
first_of start k us = (start +ℤ pos k) -ℤ sum_of (bits_below (is_seen (is_moved start us)) k)

-- what is stated of the values us of k places, the last of which is last; the steps are as many as members of xs
pub record Checks {X : Type 0} (start : ℤ) (k last : ℕ) (xs : List X) (us : List ℤ) : Type 0 where
  pub inside : AllByRecursion (IsIndex start k) us
  pub different : AreDifferent us
  pub some : is_seen (is_moved start us) last ≡ true
  pub first : (start ≤ℤ first_of start k us) × (first_of start k us ≤ℤ ((start +ℤ pos k) -ℤ pos 1))
  pub steps : Stated (Asks start k us) (step start us) (first_of start k us) xs
  pub meets : AllByRecursion (λ p. is_moved start us p ≡ true → list_any (λ w. int_eq w (start +ℤ pos p)) (stride start us (first_of start k us) xs) ≡ true) (range_with_len 0 k)

module _ (start : ℤ) (us : List ℤ) (inside : AllByRecursion (IsIndex start (length us)) us) where
  at_place : (w : ℤ) → IsIndex start (length us) w → member_at us (place start w) ≡ at us (place_of start w)
  at_place w h =
      let r = index_place start (length us) w h.0 h.1 in
      let e : w ≡ (start +ℤ pos r.0) = r.2 in
      let left : nat_abs (place start w) - 1 ≡ r.0 = ap (λ (z : ℤ). nat_abs z - 1) (one_more r.0 w e) ∙ less r.0 in
      let right : place_of start w ≡ r.0 = ap (place_of start) e ∙ place_of_index start r.0 in
      ap (at us) (left ∙ sym right)
    where
      one_more : (p : ℕ) (w : ℤ) → w ≡ (start +ℤ pos p) → place start w ≡ pos (suc p)
      one_more p w e = omega (arith, ints, e)

      less : (p : ℕ) → suc p - 1 ≡ p
      less p = omega arith

  next_index : (w : ℤ) → IsIndex start (length us) w → IsIndex start (length us) (at us (place_of start w))
  next_index w h =
      let r = index_place start (length us) w h.0 h.1 in
      subst (IsIndex start (length us)) (ap (at us) (sym (ap (place_of start) r.2 ∙ place_of_index start r.0))) (all_at (IsIndex start (length us)) us r.0 (pos 0) inside r.1)

  is_walk : {X : Type 0} (w : ℤ) (xs : List X) → IsIndex start (length us) w → stride start us w xs ≡ walk start us w (suc (length xs))
  is_walk w [] h = refl
  is_walk w (x ∷ xs) h =
      ap (λ (ws : List ℤ). w ∷ ws) (ap (λ (v : ℤ). stride start us v xs) (at_place w h) ∙ is_walk (at us (place_of start w)) xs (next_index w h))

  is_asked : {X : Type 0} (w : ℤ) (xs : List X) → IsIndex start (length us) w → Stated (Asks start (length us) us) (step start us) w xs
  is_asked w [] h = tt
  is_asked w (x ∷ xs) h =
      let next : IsIndex start (length us) (member_at us (place start w)) = subst (IsIndex start (length us)) (sym (at_place w h)) (next_index w h) in
      (((from w h.0, to w h.1), next.0, less (member_at us (place start w)) next.1), is_asked (member_at us (place start w)) xs next)
    where
      from : (w : ℤ) → start ≤ℤ w → pos 1 ≤ℤ place start w
      from w h = omega (arith, ints, h)

      to : (w : ℤ) → w <ℤ (start +ℤ pos (length us)) → place start w ≤ℤ pos (length us)
      to w h = omega (arith, ints, h)

      less : (v : ℤ) → v <ℤ (start +ℤ pos (length us)) → v ≤ℤ ((start +ℤ pos (length us)) -ℤ pos 1)
      less v h = omega (arith, ints, h)

-- what is stated of k values is what is stepped: the law, with the size

index_at : (start : ℤ) (us : List ℤ) (k last : ℕ) → k ≡ length us → k ≡ suc last → AllByRecursion (IsIndex start k) us → is_seen (is_moved start us) last ≡ true → IsIndex start k (first_of start k us)
index_at start us k last is many inside some =
    subst (λ (j : ℕ). IsIndex start j (first_of start j us)) (sym is)
    (subst (λ (j : ℕ). AllByRecursion (IsIndex start (length us)) (walk start us (first_index start us) j)) (sym is ∙ many)
    (walk_is_inside start us last (subst (λ (j : ℕ). AllByRecursion (IsIndex start j) us) is inside) (sym is ∙ many) some)).0

module _ {X : Type 0} (start : ℤ) (us : List ℤ) (last : ℕ) (many : length us ≡ suc last) (xs : List X) (steps : length xs ≡ last) where
  abbrev Meets : List ℤ → ℕ → Type 0
  Meets ws p = is_moved start us p ≡ true → list_any (λ w. int_eq w (start +ℤ pos p)) ws ≡ true

  same_walk : AllByRecursion (IsIndex start (length us)) us → is_seen (is_moved start us) last ≡ true → stride start us (first_index start us) xs ≡ walk start us (first_index start us) (length us)
  same_walk inside some =
      is_walk start us inside (first_index start us) xs (index_at start us (length us) last refl many inside some) ∙ ap (walk start us (first_index start us)) (ap suc steps ∙ sym many)

  stepped_of : Checks start (length us) last xs us → IsStepped start us
  stepped_of c = record {
    inside = c.inside;
    different = c.different;
    last = last;
    many = many;
    some = c.some;
    meets = λ p lt moved.
        let all = all_at (Meets (stride start us (first_index start us) xs)) (range_with_len 0 (length us)) p 0 c.meets (omega (arith, lt, length-range_with_len 0 (length us))) in
        subst (λ (ws : List ℤ). list_any (λ w. int_eq w (start +ℤ pos p)) ws ≡ true) (same_walk c.inside c.some)
        (subst (Meets (stride start us (first_index start us) xs)) (get_or-range_with_len 0 (length us) p 0 lt ∙ zero_more p) all moved);
  }
    where
      zero_more : (p : ℕ) → 0 + p ≡ p
      zero_more p = omega arith

  of_stepped : IsStepped start us → Checks start (length us) last xs us
  of_stepped s =
      let here : s.last ≡ last = same_last s.last (sym s.many ∙ many) in
      let some : is_seen (is_moved start us) last ≡ true = subst (λ (j : ℕ). is_seen (is_moved start us) j ≡ true) here s.some in
      let index = index_at start us (length us) last refl many s.inside some in
      record {
        inside = s.inside;
        different = s.different;
        some = some;
        first = (index.0, less (first_index start us) index.1);
        steps = is_asked start us s.inside (first_index start us) xs index;
        meets =
            all_of (Meets (stride start us (first_index start us) xs)) (range_with_len 0 (length us)) 0 (λ i lt moved.
            let within : i < length us = omega (arith, lt, length-range_with_len 0 (length us)) in
            let is : get_or (range_with_len 0 (length us)) i 0 ≡ i = get_or-range_with_len 0 (length us) i 0 within ∙ zero_more i in
            subst (λ (ws : List ℤ). list_any (λ w. int_eq w (start +ℤ pos (get_or (range_with_len 0 (length us)) i 0))) ws ≡ true) (sym (same_walk s.inside some))
            (subst (λ (j : ℕ). list_any (λ w. int_eq w (start +ℤ pos j)) (walk start us (first_index start us) (length us)) ≡ true) (sym is) (s.meets i within (subst (λ (j : ℕ). is_moved start us j ≡ true) is moved))));
      }
    where
      zero_more : (p : ℕ) → 0 + p ≡ p
      zero_more p = omega arith

      same_last : (j : ℕ) → suc j ≡ suc last → j ≡ last
      same_last j e = omega (arith, e)

      less : (v : ℤ) → v <ℤ (start +ℤ pos (length us)) → v ≤ℤ ((start +ℤ pos (length us)) -ℤ pos 1)
      less v h = omega (arith, ints, h)

-- the circuits of a list, with the size
module _ {X : Type 0} (start : ℤ) (us : List ℤ) (k last : ℕ) (is : k ≡ length us) (many : k ≡ suc last) (xs : List X) (steps : length xs ≡ last) (b : List ℤ) (size : Option Operand) where
  abbrev Sized : ℕ → Type 0
  Sized j = IsSizeSum b size (sum_of (bits_below (is_moved start us) j))

  pub circuit_of : Checks start k last xs us → Sized k → (n : ℕ) × (IsCircuit start us n × IsSizeOf b size n)
  circuit_of c s =
      (circuit_has_size b start us size).1
      (stepped_of start us last (sym is ∙ many) xs steps (subst (λ (j : ℕ). Checks start j last xs us) is c), subst Sized is s)

  pub of_circuit : (n : ℕ) × (IsCircuit start us n × IsSizeOf b size n) → Checks start k last xs us × Sized k
  of_circuit h =
      let r = (circuit_has_size b start us size).0 h in
      (subst (λ (j : ℕ). Checks start j last xs us) (sym is) (of_stepped start us last (sym is ∙ many) xs steps r.0), subst Sized (sym is) r.1)
