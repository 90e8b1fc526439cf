-- One more task of a load.
use Rattle.std.proofs.Common.{◌≡◌, ℕ, ◌+◌, ◌<◌, ◌≤◌, ℤ, pos, ◌+ℤ◌, nat_abs, if◌then◌else◌, List, ◌∷◌, length, map, ap, sym, subst, ◌∙◌, arith}
use Rattle.std.specs.List.{AllByRecursion}
use Rattle.std.proofs.lemmas.Int.{ints}
use Rattle.xs_model.specs.declared.term.Term.{Term}
use Rattle.xs_model.specs.Conditions.{value_of}
use Rattle.xs_model.specs.Fields.{item_of}
use Rattle.xs_model.specs.Formed.{IsFormedItem}
use Rattle.xs_model.specs.Instance.{term_values, values}
use Rattle.xs_model.specs.Schedule.{load, runs_at}
use Rattle.xs_model.specs.Sound.{magnitudes}
use Rattle.xs_model.specs.Value.{at}
use Rattle.xs_tasks.specs.Tested.{size_of}
use Rattle.xs_testing.specs.Rows.{AreBelow}

-- the height of a task at a time, where it runs
abbrev height_at : ℤ → ℤ → ℤ → ℤ → ℤ
height_at t s l h = if runs_at t s l then h else pos 0

regroup : (x y z : ℤ) → (x +ℤ y) +ℤ z ≡ x +ℤ (y +ℤ z)
regroup x y z = omega (arith, ints)

module _ (a : List ℤ) (t : ℤ) (vs os : List ℕ) (ls ds hs gs : List Term) (v : ℕ) (d h : Term) (starts : vs ≡ v ∷ os) (spans : ls ≡ d ∷ ds) (rest : hs ≡ h ∷ gs) where
  pub height_more : (sum new whole time s l : ℤ) → sum +ℤ load t (values a vs) (term_values a ls) (term_values a hs) ≡ whole → new ≡ sum +ℤ height_at time s l (value_of a h) → time ≡ t → s ≡ at a v → l ≡ value_of a d
      → new +ℤ load t (values a os) (term_values a ds) (term_values a gs) ≡ whole
  height_more sum new whole time s l so_far is now start length_is =
      let later : ℤ = load t (values a os) (term_values a ds) (term_values a gs) in
      let x : ℤ = value_of a h in
      ap (λ (n : ℤ). n +ℤ later) is
      ∙ ap (λ (n : ℤ). (sum +ℤ height_at n s l x) +ℤ later) now
      ∙ ap (λ (n : ℤ). (sum +ℤ height_at t n l x) +ℤ later) start
      ∙ ap (λ (n : ℤ). (sum +ℤ height_at t (at a v) n x) +ℤ later) length_is
      ∙ regroup sum (height_at t (at a v) (value_of a d) x) later
      ∙ ap (λ (us : List ℕ). sum +ℤ load t (values a us) (term_values a (d ∷ ds)) (term_values a (h ∷ gs))) (sym starts)
      ∙ ap (λ (us : List Term). sum +ℤ load t (values a vs) (term_values a us) (term_values a (h ∷ gs))) (sym spans)
      ∙ ap (λ (us : List Term). sum +ℤ load t (values a vs) (term_values a ls) (term_values a us)) (sym rest)
      ∙ so_far

  -- what is small so far leaves room for one more task
  pub record HasRoom (sum : ℤ) : Type 0 where
    pub run : nat_abs (at a v) + nat_abs (value_of a d) ≤ magnitudes
    pub height : nat_abs sum + nat_abs (value_of a h) ≤ magnitudes
    pub later : (new : ℤ) → nat_abs new ≤ nat_abs sum + nat_abs (value_of a h) → nat_abs new + ((size_of (values a os) + size_of (term_values a ds)) + size_of (term_values a gs)) ≤ magnitudes

  pub room : (sum : ℤ) → nat_abs sum + ((size_of (values a vs) + size_of (term_values a ls)) + size_of (term_values a hs)) ≤ magnitudes → HasRoom sum
  room sum small =
      let split : nat_abs sum + ((size_of (values a (v ∷ os)) + size_of (term_values a (d ∷ ds))) + size_of (term_values a (h ∷ gs))) ≤ magnitudes =
      subst (λ (us : List ℕ). nat_abs sum + ((size_of (values a us) + size_of (term_values a (d ∷ ds))) + size_of (term_values a (h ∷ gs))) ≤ magnitudes) starts
      (subst (λ (us : List Term). nat_abs sum + ((size_of (values a vs) + size_of (term_values a us)) + size_of (term_values a (h ∷ gs))) ≤ magnitudes) spans
      (subst (λ (us : List Term). nat_abs sum + ((size_of (values a vs) + size_of (term_values a ls)) + size_of (term_values a us)) ≤ magnitudes) rest small)) in
      record {
        run = omega (arith, split);
        height = omega (arith, split);
        later = λ new le. omega (arith, split, le);
      }

  pub later_starts : AreBelow (length a) vs → AreBelow (length a) os
  later_starts below = (subst (λ (us : List ℕ). AreBelow (length a) us) starts below).1

  pub later_spans : AllByRecursion (IsFormedItem (length a)) (map item_of ls) → AllByRecursion (IsFormedItem (length a)) (map item_of ds)
  later_spans formed = (subst (λ (us : List Term). AllByRecursion (IsFormedItem (length a)) (map item_of us)) spans formed).1

  pub later_heights : AllByRecursion (IsFormedItem (length a)) (map item_of hs) → AllByRecursion (IsFormedItem (length a)) (map item_of gs)
  later_heights formed = (subst (λ (us : List Term). AllByRecursion (IsFormedItem (length a)) (map item_of us)) rest formed).1
