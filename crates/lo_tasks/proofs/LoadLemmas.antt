-- The judgement of the loads.
use Rattle.std.proofs.Common.{◌≡◌, ℕ, ◌+◌, ◌*◌, ◌≤◌, ℤ, ◌*ℤ◌, Bool, true, false, ◌&&◌, List, [], ◌∷◌, length, map, refl, ap, ap₂, sym, ◌∙◌, subst, arith}
use Rattle.std.specs.Prelude.{int_le, int_lt}
use Rattle.std.specs.List.{AllByRecursion, list_all}
use Rattle.fz_model.specs.declared.builtin.Builtin.TheVariants.{ArrayBoolAnd, IntLeReif, IntLtReif, IntTimes}
use Rattle.fz_model.specs.Fixing.{IsBit}
use Rattle.fz_model.specs.Meaning.{at, truth, dot, is_one}
use Rattle.fz_model.proofs.Calls.{number-Var}
use Rattle.lo_base.specs.Item.{Item, Posted, made}
use Rattle.lo_base.proofs.Solving.{truth_bit}
use Rattle.lo_emit.specs.declared.term.Term.{Term}
use Rattle.lo_emit.specs.declared.term.Term.TheVariants.{Var}
use Rattle.lo_emit.specs.Compare.{Related}
use Rattle.lo_emit.specs.Emitted.{Out, Outs, after, integer_of_truth, integer_of_two, standing, truth_of_list, truth_of_two, truth_values}
use Rattle.lo_emit.specs.Sums.{sum_call}
use Rattle.lo_rules.specs.Rule.{num, Before, Always, Rule, Yields, YieldsAll}
use Rattle.lo_rules.proofs.Chains.{states_behind_all, yields_behind}
use Rattle.lo_rules.proofs.Integers.{yields_product}
use Rattle.lo_rules.proofs.Linear.{mapped_long, rule_sum, yields_integer}
use Rattle.lo_rules.proofs.Loops.{rules_for_all, yields_each}
use Rattle.lo_rules.proofs.Pairs.{each_long}
use Rattle.lo_rules.proofs.Rules.{rule_as}
use Rattle.lo_rules.proofs.Terms.{before_more, yields_and, yields_as, yields_le, yields_lt, yields_standing}
use Rattle.lo_tasks.specs.declared.task.Limit.{Limit}
use Rattle.lo_tasks.specs.declared.task.Task.{Task}
use Rattle.lo_tasks.specs.Cumulative.{truth_of_run, integer_of_run, product_of, factor_of, share_of, shares_of, factors_of, low_load, low_loads}
use Rattle.lo_tasks.proofs.Bounded.{term_within, product_within}
use Rattle.xf_num.specs.Span.{Bounds, IsWithin, mul_ends}
use Rattle.xs_model.specs.declared.term.Term.{Term as Operand}
use Rattle.xs_model.specs.declared.term.Term.TheVariants as operand
use Rattle.xs_model.specs.Fields.{item_of}
use Rattle.xs_model.specs.Formed.{IsFormedItem}
use Rattle.xs_model.specs.Magnitude.{term_bounds}
use Rattle.xs_model.specs.Spans.{BeginsWithin}

-- a task of variables before m, with a height over the variables of these bounds
pub record IsTask (ss : List Bounds) (m : ℕ) (task : Task) : Type 0 where
  pub start : Before m task.start
  pub end : Before m task.end
  pub height : IsFormedItem (length ss) (item_of task.height)

-- whether a task runs at a time
abbrev pub runs : Term → List ℤ → Task → Bool
runs t b task = int_le (num b task.start) (num b t) && int_lt (num b t) (num b task.end)

-- what it adds to the sum, without its factor
abbrev pub scaled : List ℤ → Operand → ℤ → ℤ
scaled b (operand.Int h) z = z
scaled b (operand.Var h) z = at b h *ℤ z

abbrev pub share : Term → List ℤ → Task → ℤ
share t b task = scaled b task.height (truth (runs t b task))

both : (s t : Bool) → list_all is_one (truth s ∷ truth t ∷ []) ≡ (s && t)
both true true = refl
both true false = refl
both false t = refl

module _ (W D : List ℤ → Type 0) (n : ℕ) (t : Term) (task : Task) (ht : Before n t) (hs : Before n task.start) (he : Before n task.end) where
  run_rule : Yields W D n (truth_of_run t n task) 12 (λ b. truth (runs t b task))
  run_rule =
      let p : Out = truth_of_two n IntLeReif task.start t in
      let k : ℕ = n + made p.items in
      let q : Out = truth_of_two k IntLtReif t task.end in
      let j : ℕ = k + made q.items in
      let U : List ℤ → ℤ = λ b. truth (int_le (num b task.start) (num b t)) in
      let V : List ℤ → ℤ = λ b. truth (int_lt (num b t) (num b task.end)) in
      let R : List ℤ → ℤ = λ b. truth (runs t b task) in
      let D1 : List ℤ → Type 0 = λ b. D b × (num b p.term ≡ U b) in
      let D2 : List ℤ → Type 0 = λ b. D1 b × (num b q.term ≡ V b) in
      let first : Before j p.term = omega arith in
      let second : Before j q.term = omega arith in
      yields_behind W D n U R p (λ k p. after k (truth_of_two k IntLtReif t task.end) (λ j q. truth_of_list j ArrayBoolAnd (p ∷ q ∷ []))) 4 8 (yields_le W D n task.start t hs ht)
      (yields_behind W D1 k V R q (λ j q. truth_of_list j ArrayBoolAnd (p.term ∷ q ∷ [])) 4 4 (yields_lt W D1 k t task.end (before_more n k t (omega arith) ht) (before_more n k task.end (omega arith) he))
      (yields_as W D2 D2 j (truth_of_list j ArrayBoolAnd (p.term ∷ q.term ∷ [])) 4 4 (λ b. truth (list_all is_one (num b p.term ∷ num b q.term ∷ []))) R (λ b d. d)
      (λ b d. ap₂ (λ (y z : ℤ). truth (list_all is_one (y ∷ z ∷ []))) d.0.1 d.1 ∙ ap truth (both (int_le (num b task.start) (num b t)) (int_lt (num b t) (num b task.end)))) (omega arith)
      (yields_and W D2 j (p.term ∷ q.term ∷ []) (first, (second, tt)))))

  number_rule : Yields W D n (integer_of_run t n task) 15 (λ b. truth (runs t b task))
  number_rule =
      let c : Out = truth_of_run t n task in
      let k : ℕ = n + made c.items in
      let R : List ℤ → ℤ = λ b. truth (runs t b task) in
      let D1 : List ℤ → Type 0 = λ b. D b × (num b c.term ≡ R b) in
      let run = run_rule in
      yields_behind W D n R R c (λ k r. integer_of_truth k r) 12 3 run
      (yields_as W D1 D1 k (integer_of_truth k c.term) 3 3 (λ b. num b c.term) R (λ b d. d) (λ b d. d.1) (omega arith)
      (yields_integer W D1 k c.term run.before (λ b d. subst IsBit (sym d.1) (truth_bit (runs t b task)))))

-- the product with a height
product_rule : (ss : List Bounds) (D : List ℤ → Type 0) (n : ℕ) (h : Operand) (z : Term) (t : List ℤ → Bool) → length ss ≤ n → IsFormedItem (length ss) (item_of h) → Before n z → ((b : List ℤ) → D b → num b z ≡ truth (t b))
    → Yields (BeginsWithin ss) D n (product_of ss h n z) 4 (λ b. scaled b h (truth (t b)))
product_rule ss D n (operand.Int h) z t le hh hz is =
    yields_as (BeginsWithin ss) D D n (standing z) 0 4 (λ b. truth (t b)) (λ b. truth (t b)) (λ b d. d) (λ b d. refl) (omega arith) (yields_standing (BeginsWithin ss) D n z (λ b. truth (t b)) hz is)
product_rule ss D n (operand.Var h) z t le hh hz is =
    let w : Bounds = mul_ends (term_bounds ss (operand.Var h)) truth_values in
    let below : Before n (Var h) = omega (arith, le, hh) in
    let same : (b : List ℤ) → D b → num b (Var h) *ℤ num b z ≡ at b h *ℤ truth (t b) = λ b d. ap₂ (λ (x y : ℤ). x *ℤ y) (number-Var b h) (is b d) in
    yields_as (BeginsWithin ss) D D n (integer_of_two n w IntTimes (Var h) z) 4 4 (λ b. num b (Var h) *ℤ num b z) (λ b. at b h *ℤ truth (t b)) (λ b d. d) same (omega arith)
    (yields_product (BeginsWithin ss) D n w (Var h) z below hz (λ b inside d. subst (IsWithin w) (sym (same b d)) (product_within (term_bounds ss (operand.Var h)) (at b h) (t b) (term_within ss b (operand.Var h) inside hh))))

module _ (ss : List Bounds) (D : List ℤ → Type 0) (m : ℕ) where
  share_rule : (n : ℕ) (t : Term) (task : Task) → length ss ≤ n → m ≤ n → Before n t → IsTask ss m task → Yields (BeginsWithin ss) D n (share_of ss t n task) 19 (λ b. share t b task)
  share_rule n t task le more ht q =
      let c : Out = integer_of_run t n task in
      let k : ℕ = n + made c.items in
      let R : List ℤ → ℤ = λ b. truth (runs t b task) in
      let one = number_rule (BeginsWithin ss) D n t task ht (before_more m n task.start more q.start) (before_more m n task.end more q.end) in
      yields_behind (BeginsWithin ss) D n R (λ b. share t b task) c (product_of ss task.height) 15 4 one
      (product_rule ss (λ b. D b × (num b c.term ≡ R b)) k task.height c.term (λ b. runs t b task) (omega (arith, le)) q.height one.before (λ b d. d.1))

  shares_rule : (tasks : List Task) (n : ℕ) (t : Term) → length ss ≤ n → m ≤ n → Before n t → AllByRecursion (IsTask ss m) tasks
      → YieldsAll (BeginsWithin ss) D n (shares_of ss tasks t n) (length tasks * 19) (λ b. map (share t b) tasks)
  shares_rule tasks n t le more ht q =
      yields_each (BeginsWithin ss) D (IsTask ss m) n 19 (share_of ss t) (share t) (λ k task above one. share_rule k t task (omega (arith, le, above)) (omega (arith, more, above)) (before_more n k t above ht) one) n tasks (omega arith) q

-- the sum at a time
abbrev pub IsWithinLimit : Limit → List Task → Term → List ℤ → Type 0
IsWithinLimit limit tasks t b = Related limit.relation (dot (factors_of tasks) (map (share t b) tasks)) (num b limit.bound)

-- how much is appended for the sum at a time
abbrev pub load_weight : ℕ → ℕ
load_weight k = k * 19 + (3 + 2 * k)

module _ (ss : List Bounds) (D : List ℤ → Type 0) (m : ℕ) (limit : Limit) (tasks : List Task) (below : length ss ≤ m) (bound : Before m limit.bound) (each_task : AllByRecursion (IsTask ss m) tasks) where
  load_rule : (n : ℕ) (t : Term) → m ≤ n → Before n t → Rule (BeginsWithin ss) D n (low_load ss limit tasks n t) (load_weight (length tasks)) Always (IsWithinLimit limit tasks t)
  load_rule n t more ht =
      let W : List ℤ → Type 0 = BeginsWithin ss in
      let c : Outs = shares_of ss tasks t n in
      let k : ℕ = n + made c.items in
      let V : List ℤ → List ℤ = λ b. map (share t b) tasks in
      let G : List ℤ → Type 0 = λ b. map (num b) c.terms ≡ V b in
      let P : List ℤ → Type 0 = λ b. Related limit.relation (dot (factors_of tasks) (map (num b) c.terms)) (num b limit.bound) in
      let long : length c.terms ≡ length tasks = each_long (share_of ss t) n tasks in
      let shares = shares_rule ss D m tasks n t (omega (arith, below, more)) more ht each_task in
      let posted : List Item = Posted (sum_call limit.relation (factors_of tasks) c.terms limit.bound) ∷ [] in
      rule_as W D D G Always P (IsWithinLimit limit tasks t) n (low_load ss limit tasks n t) (length tasks * 19 + (3 + 2 * length c.terms)) (load_weight (length tasks)) (λ b d. d) (λ b d g. tt)
      (λ b d g p. subst (λ (zs : List ℤ). Related limit.relation (dot (factors_of tasks) zs) (num b limit.bound)) g p)
      (λ b w d g p. subst (λ (zs : List ℤ). Related limit.relation (dot (factors_of tasks) zs) (num b limit.bound)) (sym g) p) (omega (arith, long))
      (states_behind_all W D n V P c posted (length tasks * 19) (3 + 2 * length c.terms) shares
      (rule_sum W (λ b. D b × G b) k limit.relation (factors_of tasks) c.terms limit.bound (mapped_long (λ (task : Task). factor_of task.height) tasks ∙ sym long) shares.before (before_more m k limit.bound (omega (arith, more)) bound)))

  pub loads_rule : (n : ℕ) (starting : List Task) → m ≤ n → AllByRecursion (IsTask ss m) starting
      → Rule (BeginsWithin ss) D n (low_loads ss limit tasks n starting) (length starting * load_weight (length tasks)) Always (λ b. AllByRecursion (λ (task : Task). IsWithinLimit limit tasks task.start b) starting)
  loads_rule n starting more q =
      rules_for_all (BeginsWithin ss) D (IsTask ss m) n (load_weight (length tasks)) (λ k (task : Task). low_load ss limit tasks k task.start) (λ b (task : Task). IsWithinLimit limit tasks task.start b)
      (λ k task above one. load_rule k task.start (omega (arith, more, above)) (before_more m k task.start (omega (arith, more, above)) one.start)) n starting (omega arith) q
