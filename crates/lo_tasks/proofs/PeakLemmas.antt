-- What the loads say of the values of the variables.
use Rattle.std.proofs.Common.{◌≡◌, ℕ, suc, ℤ, pos, ◌+ℤ◌, ◌*ℤ◌, Bool, ◌&&◌, List, [], ◌∷◌, length, map, refl, ap, ap₂, sym, ◌∙◌, subst, arith}
use Rattle.std.specs.Prelude.{int_le, int_lt}
use Rattle.std.specs.List.{AllByRecursion}
use Rattle.std.proofs.lemmas.Int.{ints}
use Rattle.fz_model.specs.Meaning.{at, truth, dot}
use Rattle.fz_model.proofs.Calls.{number-Var}
use Rattle.lo_emit.specs.declared.term.Term.{Term}
use Rattle.lo_emit.specs.declared.term.Term.TheVariants.{Var}
use Rattle.lo_rules.specs.Rule.{num}
use Rattle.lo_tasks.specs.declared.task.Task.{Task}
use Rattle.lo_tasks.specs.Cumulative.{tasks_of, factor_of, factors_of}
use Rattle.lo_tasks.proofs.LoadLemmas.{runs, scaled, share}
use Rattle.xs_laws.specs.Peaks.{running}
use Rattle.xs_model.specs.declared.term.Term.{Term as Operand}
use Rattle.xs_model.specs.declared.term.Term.TheVariants as operand
use Rattle.xs_model.specs.Conditions.{value_of}
use Rattle.xs_model.specs.Counting.{weighted_sum}
use Rattle.xs_model.specs.Instance.{values, term_values}

one_times : (x : ℤ) → pos 1 *ℤ x ≡ x
one_times x = omega (arith, ints)

factored : (b : List ℤ) (h : Operand) (z : ℤ) → factor_of h *ℤ scaled b h z ≡ value_of b h *ℤ z
factored b (operand.Int h) z = refl
factored b (operand.Var h) z = one_times (at b h *ℤ z)

-- the sum at a time is the load, as a weighted sum
pub load_is_weighted : (b : List ℤ) (t : Term) (origins : List ℕ) (ends : List Term) (heights : List Operand)
    → dot (factors_of (tasks_of origins ends heights)) (map (share t b) (tasks_of origins ends heights)) ≡ weighted_sum (term_values b heights) (running (num b t) (values b origins) (map (num b) ends))
load_is_weighted b t [] es [] = refl
load_is_weighted b t [] es (h ∷ hs) = refl
load_is_weighted b t (s ∷ os) [] [] = refl
load_is_weighted b t (s ∷ os) [] (h ∷ hs) = refl
load_is_weighted b t (s ∷ os) (e ∷ es) [] = refl
load_is_weighted b t (s ∷ os) (e ∷ es) (h ∷ hs) =
    let task : Task = record { start = Var s; end = e; height = h } in
    let same : runs t b task ≡ (int_le (at b s) (num b t) && int_lt (num b t) (num b e)) = ap (λ (x : ℤ). int_le x (num b t) && int_lt (num b t) (num b e)) (number-Var b s) in
    ap₂ (λ (x y : ℤ). x +ℤ y) (factored b h (truth (runs t b task)) ∙ ap (λ (r : Bool). value_of b h *ℤ truth r) same) (load_is_weighted b t os es hs)

-- what holds at each start
module _ (b : List ℤ) (P : ℤ → Type 0) where
  pub all_starts : (origins : List ℕ) (ends : List Term) (heights : List Operand) → length ends ≡ length origins → length heights ≡ length origins
      → AllByRecursion (λ (task : Task). P (num b task.start)) (tasks_of origins ends heights) → AllByRecursion P (values b origins)
  all_starts [] es hs e f h = tt
  all_starts (s ∷ os) [] hs e f h = absurd (omega (arith, e))
  all_starts (s ∷ os) (x ∷ es) [] e f h = absurd (omega (arith, f))
  all_starts (s ∷ os) (x ∷ es) (k ∷ hs) e f h = (subst P (number-Var b s) h.0, all_starts os es hs (omega (arith, e)) (omega (arith, f)) h.1)

  pub starts_all : (origins : List ℕ) (ends : List Term) (heights : List Operand) → AllByRecursion P (values b origins) → AllByRecursion (λ (task : Task). P (num b task.start)) (tasks_of origins ends heights)
  starts_all [] es hs h = tt
  starts_all (s ∷ os) [] hs h = tt
  starts_all (s ∷ os) (x ∷ es) [] h = tt
  starts_all (s ∷ os) (x ∷ es) (k ∷ hs) h = (subst P (sym (number-Var b s)) h.0, starts_all os es hs h.1)

pub length_tasks : (origins : List ℕ) (ends : List Term) (heights : List Operand) → length ends ≡ length origins → length heights ≡ length origins → length (tasks_of origins ends heights) ≡ length origins
length_tasks [] es hs e f = refl
length_tasks (s ∷ os) [] hs e f = absurd (omega (arith, e))
length_tasks (s ∷ os) (x ∷ es) [] e f = absurd (omega (arith, f))
length_tasks (s ∷ os) (x ∷ es) (k ∷ hs) e f = ap suc (length_tasks os es hs (omega (arith, e)) (omega (arith, f)))
