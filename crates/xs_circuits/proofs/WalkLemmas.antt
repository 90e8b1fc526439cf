-- What a walk over places tells of a list of values.
use Rattle.std.proofs.Common.{◌≡◌, ◌≢◌, ◌↔◌, ℕ, suc, ◌<◌, ◌≤◌, ℤ, pos, ◌+ℤ◌, Bool, true, false, not, ◌&&◌, List, length, Option, ap, sym, subst, ◌∙◌, arith}
use Rattle.std.specs.Prelude.{nat_lt}
use Rattle.std.specs.List.{AllByRecursion, list_all, range_with_len, position_or_len}
use Rattle.std.proofs.lemmas.Bool.{true≢false, and_parts, and_from, ltb-true, lt-ltb}
use Rattle.std.proofs.lemmas.List.{length-map}
use Rattle.std.proofs.lemmas.List.FromFn.{get_or-range_with_len, length-range_with_len}
use Rattle.std.proofs.lemmas.List.Sums.{position_or_len_is}
use Rattle.xs_model.specs.declared.instance.Constraint.TheVariants.{Circuit}
use Rattle.xs_model.specs.declared.term.Term.{Term}
use Rattle.xs_model.specs.Instance.{Holds, IsSizeOf, values}
use Rattle.xs_model.specs.Value.{at}
use Rattle.xs_laws.specs.Indices.{IsIndex, is_index, place_of}
use Rattle.xs_laws.proofs.Indices.{index_is_tested}
use Rattle.xs_laws.proofs.Neighbours.{differ}
use Rattle.xs_laws.proofs.Places.{index_unique, place_of_index}
use Rattle.xs_laws.proofs.Somes.{all_map, all_says, all_met}
use Rattle.xs_paths.specs.Round.{first_moved, goes_round, is_circuit, returns_after}
use Rattle.xs_paths.specs.Walk.{moved_places}
use Rattle.xs_paths.proofs.Round.{circuit_is_tested}

-- the first place that passes
pub first_at : (f : ℕ → Bool) (n i : ℕ) → i ≤ n → ((k : ℕ) → k < i → f k ≡ false) → (i < n → f i ≡ true) → i ≡ position_or_len f (range_with_len 0 n)
first_at f n i le before here =
    let long = length-range_with_len 0 n in
    sym (position_or_len_is f (range_with_len 0 n) i 0 (omega (arith, long)) (λ k lt. ap f (get_or-range_with_len 0 n k 0 (omega arith) ∙ (omega arith)) ∙ before k lt)
    (λ lt. ap f (get_or-range_with_len 0 n i 0 (omega (arith, long)) ∙ (omega arith)) ∙ here (omega (arith, long))))

-- a walk that is not home goes on
pub goes_on : (start : ℤ) (xs : List ℤ) (home p q n : ℕ) → p ≢ home → at xs p ≡ (start +ℤ pos q)
    → returns_after start xs (start +ℤ pos home) (start +ℤ pos p) (suc n) ≡ returns_after start xs (start +ℤ pos home) (start +ℤ pos q) n
goes_on start xs home p q n ne e =
    ap (λ (b : Bool). not b && returns_after start xs (start +ℤ pos home) (at xs (place_of start (start +ℤ pos p))) n)
    ((differ (start +ℤ pos p) (start +ℤ pos home)).0 (λ h. ne (index_unique start p home h)))
    ∙ ap (λ (w : ℤ). returns_after start xs (start +ℤ pos home) w n) (ap (at xs) (place_of_index start p) ∙ e)

-- the test of the whole
module _ (a : List ℤ) (list : List ℕ) (start : ℤ) (size : Option Term) where
  abbrev xs : List ℤ
  xs = values a list

  abbrev n : ℕ
  n = length list

  long : length xs ≡ n
  long = length-map list (at a)

  -- where the values are no indices, or no place is moved
  pub no_index : list_all (is_index start n) xs ≡ false → ¬ (Holds (Circuit list start size) a)
  no_index h = λ g.
      let r = (circuit_is_tested a start xs size).0 g in
      let t = and_parts (list_all (is_index start (length xs)) xs) (nat_lt (first_moved start xs) (length xs) && goes_round start xs (first_moved start xs) (moved_places start xs)) r.0 in
      true≢false (sym t.0 ∙ ap (λ (m : ℕ). list_all (is_index start m) xs) long ∙ h)

  pub none_moved : first_moved start xs ≡ n → ¬ (Holds (Circuit list start size) a)
  none_moved e = λ g.
      let r = (circuit_is_tested a start xs size).0 g in
      let t = and_parts (list_all (is_index start (length xs)) xs) (nat_lt (first_moved start xs) (length xs) && goes_round start xs (first_moved start xs) (moved_places start xs)) r.0 in
      let s = and_parts (nat_lt (first_moved start xs) (length xs)) (goes_round start xs (first_moved start xs) (moved_places start xs)) t.1 in
      let within = ltb-true (first_moved start xs) (length xs) s.0 in
      omega (arith, within, e, long)

  -- the values are indices where each is tested so
  pub inside : list_all (is_index start n) xs ≡ true → AllByRecursion (IsIndex start n) xs
  inside h = all_map (λ i. is_index start n i ≡ true) (IsIndex start n) xs (λ i. (index_is_tested start n i).1) (all_says (is_index start n) xs h)

  -- else the walk and the size decide
  pub walk_decides : (home nodes : ℕ) → AllByRecursion (IsIndex start n) xs → home ≡ first_moved start xs → home < n → nodes ≡ moved_places start xs
      → (goes_round start xs home nodes ≡ true × IsSizeOf a size nodes) ↔ Holds (Circuit list start size) a
  walk_decides home nodes indices is lt many = (λ g. law.1 (forth g), λ g. back (law.0 g))
    where
      law : Holds (Circuit list start size) a ↔ ((is_circuit start xs ≡ true) × IsSizeOf a size (moved_places start xs))
      law = circuit_is_tested a start xs size

      tested : list_all (is_index start (length xs)) xs ≡ true
      tested = ap (λ (m : ℕ). list_all (is_index start m) xs) long ∙ all_met (is_index start n) xs (all_map (IsIndex start n) (λ i. is_index start n i ≡ true) xs (λ i. (index_is_tested start n i).0) indices)

      same_walk : goes_round start xs home nodes ≡ goes_round start xs (first_moved start xs) (moved_places start xs)
      same_walk = ap (λ (p : ℕ). goes_round start xs p nodes) is ∙ ap (goes_round start xs (first_moved start xs)) many

      forth : goes_round start xs home nodes ≡ true × IsSizeOf a size nodes → (is_circuit start xs ≡ true) × IsSizeOf a size (moved_places start xs)
      forth g = (
        and_from (list_all (is_index start (length xs)) xs) (nat_lt (first_moved start xs) (length xs) && goes_round start xs (first_moved start xs) (moved_places start xs)) tested
            (and_from (nat_lt (first_moved start xs) (length xs)) (goes_round start xs (first_moved start xs) (moved_places start xs)) (lt-ltb (first_moved start xs) (length xs) (omega (arith, is, lt, long))) (sym same_walk ∙ g.0)),
        subst (IsSizeOf a size) many g.1,
      )

      back : (is_circuit start xs ≡ true) × IsSizeOf a size (moved_places start xs) → goes_round start xs home nodes ≡ true × IsSizeOf a size nodes
      back g =
          let t = and_parts (list_all (is_index start (length xs)) xs) (nat_lt (first_moved start xs) (length xs) && goes_round start xs (first_moved start xs) (moved_places start xs)) g.0 in
          let s = and_parts (nat_lt (first_moved start xs) (length xs)) (goes_round start xs (first_moved start xs) (moved_places start xs)) t.1 in
          (same_walk ∙ s.1, subst (IsSizeOf a size) (sym many) g.1)
