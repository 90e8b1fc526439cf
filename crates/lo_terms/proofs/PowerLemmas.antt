-- The steps of a power.
use Rattle.std.proofs.Common.{◌≡◌, ℕ, zero, suc, ◌+◌, ◌-◌, ◌<◌, ◌++◌, ap, sym, ◌∙◌, arith}
use Rattle.fz_model.specs.declared.builtin.Builtin.TheVariants.{IntTimes}
use Rattle.lo_emit.specs.Emitted.{Out, integer_of_two}
use Rattle.lo_terms.specs.Emitted.{kept}
use Rattle.lo_terms.specs.Rules.{powers, next_power}
use Rattle.lo_emit.specs.declared.term.Term.{Term}
use Rattle.lo_emit.specs.declared.term.Term.TheVariants.{Var}
use Rattle.xf_num.specs.Span.{Bounds, pow_ends}

-- one step, where one is left
pub powers-more : (n : ℕ) (w : Bounds) (x so_far : Term) (j left : ℕ) → 0 < left
    → powers n w x so_far j left ≡ next_power n w x so_far j (powers (n + 1) w x (Var n) (j + 1) (left - 1))
powers-more n w x so_far j zero lt = absurd (omega arith)
powers-more n w x so_far j (suc left) lt =
    let e : suc left - 1 ≡ left = omega arith in
    ap (λ (k : ℕ). next_power n w x so_far j (powers (n + 1) w x (Var n) (j + 1) k)) (sym e)

-- the same of what the next variable, its bounds and what stands for the power are equal to
pub powers-items : (n n' : ℕ) (w v : Bounds) (x so_far t : Term) (j left : ℕ) → 0 < left → v ≡ kept (pow_ends w j) → n' ≡ n + 1 → t ≡ Var n
    → (powers n w x so_far j left).items ≡ (integer_of_two n v IntTimes so_far x).items ++ (powers n' w x t (j + 1) (left - 1)).items
powers-items n n' w v x so_far t j left lt is at same =
    ap (λ (o : Out). o.items) (powers-more n w x so_far j left lt)
    ∙ ap (λ (u : Bounds). (integer_of_two n u IntTimes so_far x).items ++ (powers (n + 1) w x (Var n) (j + 1) (left - 1)).items) (sym is)
    ∙ ap (λ (k : ℕ). (integer_of_two n v IntTimes so_far x).items ++ (powers k w x (Var n) (j + 1) (left - 1)).items) (sym at)
    ∙ ap (λ (u : Term). (integer_of_two n v IntTimes so_far x).items ++ (powers n' w x u (j + 1) (left - 1)).items) (sym same)

pub powers-term : (n n' : ℕ) (w : Bounds) (x so_far t : Term) (j left : ℕ) → 0 < left → n' ≡ n + 1 → t ≡ Var n
    → (powers n' w x t (j + 1) (left - 1)).term ≡ (powers n w x so_far j left).term
powers-term n n' w x so_far t j left lt at same =
    ap (λ (k : ℕ). (powers k w x t (j + 1) (left - 1)).term) at
    ∙ ap (λ (u : Term). (powers (n + 1) w x u (j + 1) (left - 1)).term) same
    ∙ ap (λ (o : Out). o.term) (sym (powers-more n w x so_far j left lt))
