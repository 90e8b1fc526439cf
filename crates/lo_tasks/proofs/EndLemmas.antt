-- The judgement of the ends of tasks.
use Rattle.std.proofs.Common.{◌≡◌, ℕ, suc, ◌*◌, ◌<◌, ◌≤◌, ℤ, pos, ◌+ℤ◌, List, [], ◌∷◌, length, map, refl, ap, ap₂, sym, ◌∙◌, arith}
use Rattle.std.specs.List.{AllByRecursion}
use Rattle.std.proofs.lemmas.Int.{ints}
use Rattle.fz_model.specs.Meaning.{at, dot}
use Rattle.fz_model.proofs.Calls.{number-Var}
use Rattle.lo_emit.specs.declared.compare.Relation.TheVariants as relation
use Rattle.lo_emit.specs.declared.term.Term.{Term}
use Rattle.lo_emit.specs.declared.term.Term.TheVariants.{Var}
use Rattle.lo_emit.specs.Conditions.{term_of}
use Rattle.lo_rules.specs.Rule.{num, Before, AllBefore, Always, Rule, Yields, YieldsAll}
use Rattle.lo_rules.proofs.Conditions.{num_operand, yields_sum}
use Rattle.lo_rules.proofs.Linear.{rule_sum}
use Rattle.lo_rules.proofs.Loops.{rules_for_all, yields_each}
use Rattle.lo_rules.proofs.Rules.{rule_as}
use Rattle.lo_rules.proofs.Terms.{yields_as}
use Rattle.lo_tasks.specs.Cumulative.{beside, end_bounds, new_end, new_ends, given_end, given_ends}
use Rattle.lo_tasks.proofs.Bounded.{term_within, sum_within}
use Rattle.xf_num.specs.Span.{Bounds}
use Rattle.xs_model.specs.declared.term.Term.{Term as Operand}
use Rattle.xs_model.specs.declared.term.Term.TheVariants as operand
use Rattle.xs_model.specs.Conditions.{value_of}
use Rattle.xs_model.specs.Fields.{item_of}
use Rattle.xs_model.specs.Formed.{IsFormedItem}
use Rattle.xs_model.specs.Instance.{values, term_values}
use Rattle.xs_model.specs.Magnitude.{term_bounds}
use Rattle.xs_model.specs.Schedule.{AreEnds}
use Rattle.xs_model.specs.Spans.{BeginsWithin}

-- a start and a length over the variables of these bounds
pub record IsStretch (ss : List Bounds) (p : ℕ × Operand) : Type 0 where
  pub start : p.0 < length ss
  pub long : IsFormedItem (length ss) (item_of p.1)

-- the same, and an end
pub record IsEnded (ss : List Bounds) (p : (ℕ × Operand) × ℕ) : Type 0 where
  pub stretch : IsStretch ss p.0
  pub end : p.1 < length ss

abbrev pub end_value : List ℤ → ℕ × Operand → ℤ
end_value b p = at b p.0 +ℤ value_of b p.1

dot_two : (x y : ℤ) → dot (pos 1 ∷ pos 1 ∷ []) (x ∷ y ∷ []) ≡ x +ℤ y
dot_two x y = omega (arith, ints)

pub operand_before : (m n : ℕ) (u : Operand) → m ≤ n → IsFormedItem m (item_of u) → Before n (term_of u)
operand_before m n (operand.Int z) le h = tt
operand_before m n (operand.Var v) le h = omega (arith, le, h)

module _ (ss : List Bounds) (D : List ℤ → Type 0) where
  two_terms : (b : List ℤ) (s : ℕ) (l : Operand) → dot (pos 1 ∷ pos 1 ∷ []) (num b (Var s) ∷ num b (term_of l) ∷ []) ≡ at b s +ℤ value_of b l
  two_terms b s l = dot_two (num b (Var s)) (num b (term_of l)) ∙ ap₂ (λ (x y : ℤ). x +ℤ y) (number-Var b s) (num_operand b l)

  before_both : (n s : ℕ) (l : Operand) → length ss ≤ n → s < length ss → IsFormedItem (length ss) (item_of l) → AllBefore n (Var s ∷ term_of l ∷ [])
  before_both n s l le lt h = (omega (arith, le, lt), (operand_before (length ss) n l le h, tt))

  new_rule : (n : ℕ) (p : ℕ × Operand) → length ss ≤ n → IsStretch ss p → Yields (BeginsWithin ss) D n (new_end ss n p) 8 (λ b. end_value b p)
  new_rule n p le q =
      let cs : List ℤ = pos 1 ∷ pos 1 ∷ [] in
      let ts : List Term = Var p.0 ∷ term_of p.1 ∷ [] in
      yields_as (BeginsWithin ss) D D n (new_end ss n p) 8 8 (λ b. dot cs (map (num b) ts)) (λ b. end_value b p) (λ b d. d) (λ b d. two_terms b p.0 p.1) (omega arith)
      (yields_sum (BeginsWithin ss) D n (end_bounds ss p.0 p.1) cs ts refl (before_both n p.0 p.1 le q.start q.long)
      (λ b w d.
      sum_within (term_bounds ss (operand.Var p.0)) (term_bounds ss p.1) (at b p.0) (value_of b p.1) (dot cs (map (num b) ts)) (term_within ss b (operand.Var p.0) w q.start) (term_within ss b p.1 w q.long) (two_terms b p.0 p.1)))

  pub new_ends_rule : (n : ℕ) (origins : List ℕ) (lengths : List Operand) → length ss ≤ n → AllByRecursion (IsStretch ss) (beside origins lengths)
      → YieldsAll (BeginsWithin ss) D n (new_ends ss n origins lengths) (length (beside origins lengths) * 8) (λ b. map (end_value b) (beside origins lengths))
  new_ends_rule n origins lengths le q = yields_each (BeginsWithin ss) D (IsStretch ss) (length ss) 8 (new_end ss) end_value (λ k p above one. new_rule k p above one) n (beside origins lengths) le q

  given_rule : (n : ℕ) (p : (ℕ × Operand) × ℕ) → length ss ≤ n → IsEnded ss p → Rule (BeginsWithin ss) D n (given_end n p) 7 Always (λ b. at b p.1 ≡ end_value b p.0)
  given_rule n p le q =
      let cs : List ℤ = pos 1 ∷ pos 1 ∷ [] in
      let ts : List Term = Var p.0.0 ∷ term_of p.0.1 ∷ [] in
      let end : Before n (Var p.1) = (let lt = q.end in omega (arith, le, lt)) in
      rule_as (BeginsWithin ss) D D Always Always (λ b. dot cs (map (num b) ts) ≡ num b (Var p.1)) (λ b. at b p.1 ≡ end_value b p.0) n (given_end n p) 7 7 (λ b d. d) (λ b d g. tt)
      (λ b d g h. sym (sym (two_terms b p.0.0 p.0.1) ∙ h ∙ number-Var b p.1)) (λ b w d g h. two_terms b p.0.0 p.0.1 ∙ sym h ∙ sym (number-Var b p.1)) (omega arith)
      (rule_sum (BeginsWithin ss) D n relation.Eq cs ts (Var p.1) refl (before_both n p.0.0 p.0.1 le q.stretch.start q.stretch.long) end)

  pub given_ends_rule : (n : ℕ) (origins : List ℕ) (lengths : List Operand) (ends : List ℕ) → length ss ≤ n → AllByRecursion (IsEnded ss) (beside (beside origins lengths) ends)
      → Rule (BeginsWithin ss) D n (given_ends n origins lengths ends) (length (beside (beside origins lengths) ends) * 7) Always (λ b. AllByRecursion (λ (p : (ℕ × Operand) × ℕ). at b p.1 ≡ end_value b p.0) (beside (beside origins lengths) ends))
  given_ends_rule n origins lengths ends le q =
      rules_for_all (BeginsWithin ss) D (IsEnded ss) (length ss) 7 given_end (λ b (p : (ℕ × Operand) × ℕ). at b p.1 ≡ end_value b p.0) (λ k p above one. given_rule k p above one) n (beside (beside origins lengths) ends) le q

-- what this says of the lists

module _ (b : List ℤ) where
  pub ends_are_new : (origins : List ℕ) (lengths : List Operand) → length lengths ≡ length origins → AreEnds (values b origins) (term_values b lengths) (map (end_value b) (beside origins lengths))
  ends_are_new [] [] e = tt
  ends_are_new [] (l ∷ ls) e = absurd (omega (arith, e))
  ends_are_new (s ∷ os) [] e = absurd (omega (arith, e))
  ends_are_new (s ∷ os) (l ∷ ls) e = (refl, ends_are_new os ls (omega (arith, e)))

  abbrev Stated : List ℕ → List Operand → List ℕ → Type 0
  Stated origins lengths ends = AllByRecursion (λ (p : (ℕ × Operand) × ℕ). at b p.1 ≡ end_value b p.0) (beside (beside origins lengths) ends)

  pub ends_are_given : (origins : List ℕ) (lengths : List Operand) (ends : List ℕ) → length lengths ≡ length origins → length ends ≡ length origins → Stated origins lengths ends → AreEnds (values b origins) (term_values b lengths) (values b ends)
  ends_are_given [] [] [] e f h = tt
  ends_are_given [] [] (x ∷ es) e f h = absurd (omega (arith, f))
  ends_are_given [] (l ∷ ls) es e f h = absurd (omega (arith, e))
  ends_are_given (s ∷ os) [] es e f h = absurd (omega (arith, e))
  ends_are_given (s ∷ os) (l ∷ ls) [] e f h = absurd (omega (arith, f))
  ends_are_given (s ∷ os) (l ∷ ls) (x ∷ es) e f h = (h.0, ends_are_given os ls es (omega (arith, e)) (omega (arith, f)) h.1)

  pub given_are_ends : (origins : List ℕ) (lengths : List Operand) (ends : List ℕ) → AreEnds (values b origins) (term_values b lengths) (values b ends) → Stated origins lengths ends
  given_are_ends [] ls es h = tt
  given_are_ends (s ∷ os) [] es h = tt
  given_are_ends (s ∷ os) (l ∷ ls) [] h = tt
  given_are_ends (s ∷ os) (l ∷ ls) (x ∷ es) h = (h.0, given_are_ends os ls es h.1)

pub length_beside : {X Y : Type 0} (xs : List X) (ys : List Y) → length ys ≡ length xs → length (beside xs ys) ≡ length xs
length_beside [] ys e = refl
length_beside (x ∷ xs) [] e = absurd (omega (arith, e))
length_beside (x ∷ xs) (y ∷ ys) e = ap suc (length_beside xs ys (omega (arith, e)))
