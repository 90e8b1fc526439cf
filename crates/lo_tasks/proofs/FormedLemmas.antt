-- The items of tasks are well formed.
use Rattle.std.proofs.Common.{◌≡◌, ℕ, ◌+◌, ℤ, pos, Bool, List, [], ◌∷◌, ◌++◌, length, map, refl, sym, ◌∙◌, arith}
use Rattle.std.specs.List.{AllByRecursion}
use Rattle.fz_model.specs.declared.builtin.Builtin.TheVariants.{ArrayBoolAnd, IntLeReif, IntLtReif}
use Rattle.fz_model.specs.Limits.{IsSmall, exactly}
use Rattle.fz_model.specs.Sound.{IsRange}
use Rattle.lo_base.specs.Formed.{kinds_of, AreFormed, AreIntegers, Keeps}
use Rattle.lo_base.specs.Item.{Posted, made}
use Rattle.lo_base.proofs.Formed.{formed_join, keeps_all, keeps_behind}
use Rattle.lo_emit.specs.declared.compare.Relation.TheVariants as relation
use Rattle.lo_emit.specs.declared.term.Term.{Term}
use Rattle.lo_emit.specs.declared.term.Term.TheVariants.{Var}
use Rattle.lo_emit.specs.Conditions.{term_of}
use Rattle.lo_emit.specs.Emitted.{Out, Outs, after, integer_of_truth, truth_of_list, truth_of_two}
use Rattle.lo_emit.specs.Sums.{sum_call}
use Rattle.lo_rules.specs.Conditions.{HasNeighbours}
use Rattle.lo_rules.specs.Formed.{IsInteger, IsLogic, AreIntegerTerms, Makes, MakesAll}
use Rattle.lo_rules.proofs.Linear.{mapped_long}
use Rattle.lo_rules.proofs.Making.{integer_more, logic_more, makes_and, makes_counted, makes_le, makes_lt, makes_product, small_one}
use Rattle.lo_rules.proofs.MakingConditions.{formed_sum, makes_integer_sum}
use Rattle.lo_rules.proofs.MakingLoops.{formed_each, formed_for_all, integers_stay, kinds_behind, makes_behind, makes_standing}
use Rattle.lo_rules.proofs.Pairs.{each_long}
use Rattle.lo_tasks.specs.declared.task.Limit.{Limit}
use Rattle.lo_tasks.specs.declared.task.Task.{Task}
use Rattle.lo_tasks.specs.Cumulative.{beside, end_bounds, new_end, new_ends, given_end, given_ends, tasks_of, truth_of_run, integer_of_run, product_of, factor_of, share_of, shares_of, factors_of, low_load, low_loads}
use Rattle.lo_tasks.proofs.EndLemmas.{IsEnded}
use Rattle.lo_tasks.proofs.MeasuredLemmas.{IsOperand, IsMeasuredStretch, product_range}
use Rattle.xf_num.specs.Span.{Bounds}
use Rattle.xs_model.specs.declared.term.Term.{Term as Operand}
use Rattle.xs_model.specs.declared.term.Term.TheVariants as operand
use Rattle.xs_model.specs.Fields.{Variable, item_of}
use Rattle.xs_model.specs.Formed.{IsFormedItem}
use Rattle.xs_model.specs.Magnitude.{term_bounds}
use Rattle.xs_model.specs.Sound.{IsSmall as HasSmallMagnitude}
use Rattle.std.proofs.lemmas.Int.{ints}

small_integer : (z : ℤ) → HasSmallMagnitude z → IsSmall (exactly z)
small_integer z h = record { from = omega (arith, ints, h); to = omega (arith, ints, h) }

pub operand_integer : (m : ℕ) (bs : List Bool) (t : Operand) → AreIntegers m bs → IsFormedItem m (item_of t) → IsInteger bs (term_of t)
operand_integer m bs (operand.Int z) kinds h = small_integer z h
operand_integer m bs (operand.Var v) kinds h = kinds v h

-- a task of integers
pub record IsTaskFormed (ss : List Bounds) (bs : List Bool) (task : Task) : Type 0 where
  pub start : IsInteger bs task.start
  pub end : IsInteger bs task.end
  pub height : IsInteger bs (term_of task.height)
  pub range : IsRange (term_bounds ss task.height)

pub tasks_formed : (ss : List Bounds) (bs : List Bool) (origins : List ℕ) (ends : List Term) (heights : List Operand) → AreIntegers (length ss) bs → AllByRecursion (IsFormedItem (length ss)) (map Variable origins) → AreIntegerTerms bs ends
    → AllByRecursion (IsOperand ss) heights → AllByRecursion (IsTaskFormed ss bs) (tasks_of origins ends heights)
tasks_formed ss bs [] es hs kinds h k j = tt
tasks_formed ss bs (s ∷ os) [] hs kinds h k j = tt
tasks_formed ss bs (s ∷ os) (e ∷ es) [] kinds h k j = tt
tasks_formed ss bs (s ∷ os) (e ∷ es) (x ∷ hs) kinds h k j =
    (record { start = kinds s h.0; end = k.0; height = operand_integer (length ss) bs x kinds j.0.inside; range = j.0.range }, tasks_formed ss bs os es hs kinds h.1 k.1 j.1)

module _ (bs : List Bool) (n : ℕ) (here : length bs ≡ n) (t : Term) (task : Task) (ht : IsInteger bs t) (hs : IsInteger bs task.start) (he : IsInteger bs task.end) where
  run_formed : Makes IsLogic bs (truth_of_run t n task)
  run_formed =
      let p : Out = truth_of_two n IntLeReif task.start t in
      let k : ℕ = n + made p.items in
      let cs : List Bool = bs ++ kinds_of p.items in
      let q : Out = truth_of_two k IntLtReif t task.end in
      let j : ℕ = k + made q.items in
      let ds : List Bool = cs ++ kinds_of q.items in
      let at_k : length cs ≡ k = kinds_behind bs n p.items here in
      let at_j : length ds ≡ j = kinds_behind cs k q.items at_k in
      let keeps : Keeps bs cs = keeps_behind bs (kinds_of p.items) in
      let first = makes_le bs n here task.start t hs ht in
      let second = makes_lt cs k at_k t task.end (integer_more bs cs keeps t ht) (integer_more bs cs keeps task.end he) in
      makes_behind IsLogic IsLogic bs n p (λ k p. after k (truth_of_two k IntLtReif t task.end) (λ j q. truth_of_list j ArrayBoolAnd (p ∷ q ∷ []))) first
      (makes_behind IsLogic IsLogic cs k q (λ j q. truth_of_list j ArrayBoolAnd (p.term ∷ q ∷ [])) second
      (makes_and ds j at_j (p.term ∷ q.term ∷ []) (logic_more cs ds (keeps_behind cs (kinds_of q.items)) p.term first.term, (second.term, tt))))

  number_formed : Makes IsInteger bs (integer_of_run t n task)
  number_formed =
      let c : Out = truth_of_run t n task in
      let run = run_formed in
      makes_behind IsLogic IsInteger bs n c (λ k r. integer_of_truth k r) run (makes_counted (bs ++ kinds_of c.items) (n + made c.items) (kinds_behind bs n c.items here) c.term run.term)

product_formed : (ss : List Bounds) (bs : List Bool) (n : ℕ) (h : Operand) (z : Term) → length bs ≡ n → IsInteger bs (term_of h) → IsRange (term_bounds ss h) → IsInteger bs z → Makes IsInteger bs (product_of ss h n z)
product_formed ss bs n (operand.Int h) z here kind range hz = makes_standing IsInteger integers_stay bs z hz
product_formed ss bs n (operand.Var h) z here kind range hz =
    let r = product_range (term_bounds ss (operand.Var h)) range in
    makes_product bs n here _ r.ordered r.small (Var h) z kind hz

share_formed : (ss : List Bounds) (bs : List Bool) (n : ℕ) (t : Term) (task : Task) → length bs ≡ n → IsInteger bs t → IsTaskFormed ss bs task → Makes IsInteger bs (share_of ss t n task)
share_formed ss bs n t task here ht q =
    let c : Out = integer_of_run t n task in
    let cs : List Bool = bs ++ kinds_of c.items in
    let one = number_formed bs n here t task ht q.start q.end in
    makes_behind IsInteger IsInteger bs n c (product_of ss task.height) one
    (product_formed ss cs (n + made c.items) task.height c.term (kinds_behind bs n c.items here) (integer_more bs cs (keeps_behind bs (kinds_of c.items)) (term_of task.height) q.height) q.range one.term)

task_more : (ss : List Bounds) (bs cs : List Bool) (task : Task) → Keeps bs cs → IsTaskFormed ss bs task → IsTaskFormed ss cs task
task_more ss bs cs task keeps q = record {
  start = integer_more bs cs keeps task.start q.start;
  end = integer_more bs cs keeps task.end q.end;
  height = integer_more bs cs keeps (term_of task.height) q.height;
  range = q.range;
}

tasks_more : (ss : List Bounds) (bs cs : List Bool) (tasks : List Task) → Keeps bs cs → AllByRecursion (IsTaskFormed ss bs) tasks → AllByRecursion (IsTaskFormed ss cs) tasks
tasks_more ss bs cs [] keeps h = tt
tasks_more ss bs cs (task ∷ tasks) keeps h = (task_more ss bs cs task keeps h.0, tasks_more ss bs cs tasks keeps h.1)

factor_small : (bs : List Bool) (h : Operand) → IsInteger bs (term_of h) → IsSmall (exactly (factor_of h))
factor_small bs (operand.Int z) h = h
factor_small bs (operand.Var v) h = small_one

factors_small : (ss : List Bounds) (bs : List Bool) (tasks : List Task) → AllByRecursion (IsTaskFormed ss bs) tasks → AllByRecursion (λ z. IsSmall (exactly z)) (factors_of tasks)
factors_small ss bs [] h = tt
factors_small ss bs (task ∷ tasks) h = (factor_small bs task.height h.0.height, factors_small ss bs tasks h.1)

module _ (ss : List Bounds) (base : List Bool) (limit : Limit) (tasks : List Task) (bound : IsInteger base limit.bound) (neighbours : HasNeighbours limit.bound) (each_task : AllByRecursion (IsTaskFormed ss base) tasks) where
  load_formed : (n : ℕ) (bs : List Bool) (t : Term) → length bs ≡ n → Keeps base bs → IsInteger bs t → AreFormed bs (low_load ss limit tasks n t)
  load_formed n bs t here keeps ht =
      let c : Outs = shares_of ss tasks t n in
      let more : List Bool = bs ++ kinds_of c.items in
      let stays : Keeps bs more = keeps_behind bs (kinds_of c.items) in
      let all =
      formed_each bs (IsTaskFormed ss bs) IsInteger integers_stay (share_of ss t)
      (λ k cs task long holds q. share_formed ss cs k t task long (integer_more bs cs holds t ht) (task_more ss bs cs task holds q)) n bs tasks here (keeps_all bs) (tasks_more ss base bs tasks keeps each_task) in
      formed_join bs c.items (Posted (sum_call limit.relation (factors_of tasks) c.terms limit.bound) ∷ []) all.formed (
        formed_sum more limit.relation (factors_of tasks) c.terms limit.bound (mapped_long (λ (task : Task). factor_of task.height) tasks ∙ sym (each_long (share_of ss t) n tasks)) (factors_small ss base tasks each_task) all.terms
            (integer_more bs more stays limit.bound (integer_more base bs keeps limit.bound bound)) neighbours,
        tt,
      )

  pub loads_formed : (n : ℕ) (bs : List Bool) (starting : List Task) → length bs ≡ n → Keeps base bs → AllByRecursion (IsTaskFormed ss base) starting → AreFormed bs (low_loads ss limit tasks n starting)
  loads_formed n bs starting here keeps q =
      formed_for_all base (IsTaskFormed ss base) (λ k (task : Task). low_load ss limit tasks k task.start)
      (λ k cs task long holds one. load_formed k cs task.start long holds (integer_more base cs holds task.start one.start)) n bs starting here keeps q

-- the ends

module _ (ss : List Bounds) (bs : List Bool) (n : ℕ) (here : length bs ≡ n) (kinds : AreIntegers (length ss) bs) where
  end_formed : (k : ℕ) (cs : List Bool) (p : ℕ × Operand) → length cs ≡ k → Keeps bs cs → IsMeasuredStretch ss p → Makes IsInteger cs (new_end ss k p)
  end_formed k cs p long keeps q =
      let r = q.range in
      makes_integer_sum cs k long (end_bounds ss p.0 p.1) r.ordered r.small (pos 1 ∷ pos 1 ∷ []) (Var p.0 ∷ term_of p.1 ∷ []) refl (small_one, (small_one, tt))
      (keeps p.0 _ (kinds p.0 q.stretch.start), (integer_more bs cs keeps (term_of p.1) (operand_integer (length ss) bs p.1 kinds q.stretch.long), tt))

  pub new_ends_formed : (origins : List ℕ) (lengths : List Operand) → AllByRecursion (IsMeasuredStretch ss) (beside origins lengths) → MakesAll IsInteger bs (new_ends ss n origins lengths)
  new_ends_formed origins lengths q = formed_each bs (IsMeasuredStretch ss) IsInteger integers_stay (new_end ss) end_formed n bs (beside origins lengths) here (keeps_all bs) q

  given_formed : (k : ℕ) (cs : List Bool) (p : (ℕ × Operand) × ℕ) → length cs ≡ k → Keeps bs cs → IsEnded ss p → AreFormed cs (given_end k p)
  given_formed k cs p long keeps q = (
    formed_sum cs relation.Eq (pos 1 ∷ pos 1 ∷ []) (Var p.0.0 ∷ term_of p.0.1 ∷ []) (Var p.1) refl (small_one, (small_one, tt))
        (keeps p.0.0 _ (kinds p.0.0 q.stretch.start), (integer_more bs cs keeps (term_of p.0.1) (operand_integer (length ss) bs p.0.1 kinds q.stretch.long), tt)) (keeps p.1 _ (kinds p.1 q.end)) tt,
    tt,
  )

  pub given_ends_formed : (origins : List ℕ) (lengths : List Operand) (ends : List ℕ) → AllByRecursion (IsEnded ss) (beside (beside origins lengths) ends) → AreFormed bs (given_ends n origins lengths ends)
  given_ends_formed origins lengths ends q = formed_for_all bs (IsEnded ss) given_end given_formed n bs (beside (beside origins lengths) ends) here (keeps_all bs) q
