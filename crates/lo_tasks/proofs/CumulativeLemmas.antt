-- The laws of `cumulative`.
use Rattle.std.proofs.Common.{◌≡◌, ℕ, ◌+◌, ◌*◌, ◌≤◌, ℤ, pos, Bool, true, Option, None, Some, List, [], ◌∷◌, ◌++◌, length, map, refl, sym, subst, arith}
use Rattle.std.specs.List.{AllByRecursion}
use Rattle.fz_model.specs.Meaning.{at, dot}
use Rattle.fz_model.proofs.Calls.{number-Int}
use Rattle.lo_base.specs.Formed.{kinds_of, AreFormed, AreIntegers}
use Rattle.lo_base.specs.Item.{Item, made}
use Rattle.lo_base.proofs.Formed.{formed_join, integers_kept, keeps_all, keeps_behind}
use Rattle.lo_base.proofs.Solving.{at_front}
use Rattle.lo_emit.specs.declared.term.Term.{Term}
use Rattle.lo_emit.specs.declared.term.Term.TheVariants.{Int, Var}
use Rattle.lo_emit.specs.Compare.{Related}
use Rattle.lo_emit.specs.Emitted.{Outs}
use Rattle.lo_rules.specs.Conditions.{HasNeighbours}
use Rattle.lo_rules.specs.Formed.{IsInteger, AreIntegerTerms}
use Rattle.lo_rules.specs.Rule.{num, Before, AllBefore, Always, Rule}
use Rattle.lo_rules.proofs.Chains.{states_behind_all}
use Rattle.lo_rules.proofs.Integers.{rule_compare}
use Rattle.lo_rules.proofs.Loops.{rule_under}
use Rattle.lo_rules.proofs.Making.{small_zero}
use Rattle.lo_rules.proofs.MakingConditions.{formed_relation}
use Rattle.lo_rules.proofs.MakingLoops.{kinds_behind}
use Rattle.lo_rules.proofs.Rules.{rules_join}
use Rattle.lo_tasks.specs.declared.task.Limit.{Limit}
use Rattle.lo_tasks.specs.declared.task.Task.{Task}
use Rattle.lo_tasks.specs.Cumulative.{beside, new_ends, given_ends, tasks_of, factors_of, low_idle, low_loads, low_tasks, behind_new, behind_given}
use Rattle.lo_tasks.proofs.Bounded.{all_natural}
use Rattle.lo_tasks.proofs.EndLemmas.{end_value, given_ends_rule, new_ends_rule}
use Rattle.lo_tasks.proofs.FormedLemmas.{given_ends_formed, loads_formed, new_ends_formed, tasks_formed}
use Rattle.lo_tasks.proofs.LoadLemmas.{IsTask, IsWithinLimit, load_weight, loads_rule, share}
use Rattle.lo_tasks.proofs.MeasuredLemmas.{IsOperand, IsMeasuredStretch, ended_in, stretches_of}
use Rattle.lo_tasks.proofs.PeakLemmas.{all_starts, load_is_weighted, starts_all}
use Rattle.xf_num.specs.Span.{Bounds}
use Rattle.xs_laws.specs.Peaks.{AreNatural, running}
use Rattle.xs_laws.proofs.Limits.{limits_have_peaks}
use Rattle.xs_laws.proofs.Places.{all_at, all_of}
use Rattle.xs_laws.proofs.Somes.{all_map}
use Rattle.xs_model.specs.declared.term.Cond.{Cond}
use Rattle.xs_model.specs.declared.term.Term.{Term as Operand}
use Rattle.xs_model.specs.declared.term.Term.TheVariants as operand
use Rattle.xs_model.specs.Conditions.{value_of, Meets}
use Rattle.xs_model.specs.Counting.{weighted_sum}
use Rattle.xs_model.specs.Fields.{Variable, item_of}
use Rattle.xs_model.specs.Fitting.{IsLimit}
use Rattle.xs_model.specs.Formed.{IsFormedItem}
use Rattle.xs_model.specs.Instance.{values, term_values}
use Rattle.xs_model.specs.Magnitude.{are_not_negative}
use Rattle.xs_model.specs.Schedule.{IsCumulative, AreEnds}
use Rattle.xs_model.specs.Spans.{BeginsWithin}

-- A limit over the variables of these bounds, in the words of a condition.
pub record IsBound (ss : List Bounds) (limit : Limit) (cond : Cond) : Type 0 where
  pub is_limit : IsLimit cond
  pub says : (b : List ℤ) (x : ℤ) → Related limit.relation x (num b limit.bound) → Meets b cond x
  pub met : (b : List ℤ) (x : ℤ) → Meets b cond x → Related limit.relation x (num b limit.bound)
  pub before : (n : ℕ) → length ss ≤ n → Before n limit.bound
  pub kind : (bs : List Bool) → AreIntegers (length ss) bs → IsInteger bs limit.bound
  pub neighbours : HasNeighbours limit.bound

-- lists of tasks over these variables
pub record AreTasks (ss : List Bounds) (origins : List ℕ) (lengths heights : List Operand) : Type 0 where
  pub many_lengths : length lengths ≡ length origins
  pub many_heights : length heights ≡ length origins
  pub origins_in : AllByRecursion (IsFormedItem (length ss)) (map Variable origins)
  pub lengths_in : AllByRecursion (IsFormedItem (length ss)) (map item_of lengths)
  pub heights_in : AllByRecursion (IsFormedItem (length ss)) (map item_of heights)
  pub natural : are_not_negative ss heights ≡ true
  pub stretches : AllByRecursion (IsMeasuredStretch ss) (beside origins lengths)
  pub operands : AllByRecursion (IsOperand ss) heights

-- ends, where they are given, are such variables
abbrev pub AreEndsIn : List Bounds → Option (List ℕ) → Type 0
AreEndsIn ss None = Unit {0}
AreEndsIn ss (Some ends) = AllByRecursion (IsFormedItem (length ss)) (map Variable ends)

-- values, whatever comes behind

pub values_front : (m : ℕ) (a d : List ℤ) (vs : List ℕ) → m ≤ length a → AllByRecursion (IsFormedItem m) (map Variable vs) → values (a ++ d) vs ≡ values a vs
values_front m a d [] le h = refl
values_front m a d (v ∷ vs) le h = λ i. at_front a d v (omega (arith, le, h.0)) i ∷ values_front m a d vs le h.1 i

pub term_front : (m : ℕ) (a d : List ℤ) (t : Operand) → m ≤ length a → IsFormedItem m (item_of t) → value_of (a ++ d) t ≡ value_of a t
term_front m a d (operand.Int z) le h = refl
term_front m a d (operand.Var v) le h = at_front a d v (omega (arith, le, h))

pub terms_front : (m : ℕ) (a d : List ℤ) (ts : List Operand) → m ≤ length a → AllByRecursion (IsFormedItem m) (map item_of ts) → term_values (a ++ d) ts ≡ term_values a ts
terms_front m a d [] le h = refl
terms_front m a d (t ∷ ts) le h = λ i. term_front m a d t le h.0 i ∷ terms_front m a d ts le h.1 i

tasks_before : (ss : List Bounds) (m : ℕ) (origins : List ℕ) (ends : List Term) (heights : List Operand) → length ss ≤ m → AllByRecursion (IsFormedItem (length ss)) (map Variable origins) → AllBefore m ends
    → AllByRecursion (IsFormedItem (length ss)) (map item_of heights) → AllByRecursion (IsTask ss m) (tasks_of origins ends heights)
tasks_before ss m [] es hs le h k j = tt
tasks_before ss m (s ∷ os) [] hs le h k j = tt
tasks_before ss m (s ∷ os) (e ∷ es) [] le h k j = tt
tasks_before ss m (s ∷ os) (e ∷ es) (x ∷ hs) le h k j = (record { start = omega (arith, le, h.0); end = k.0; height = j.0 }, tasks_before ss m os es hs le h.1 k.1 j.1)

module _ (ss : List Bounds) (limit : Limit) (cond : Cond) (is : IsBound ss limit cond) (origins : List ℕ) (lengths heights : List Operand) (tasks : AreTasks ss origins lengths heights) where
  -- 0 meets the limit
  abbrev pub Idle : List ℤ → Type 0
  Idle b = Related limit.relation (num b (Int (pos 0))) (num b limit.bound)

  abbrev pub Loads : List Term → List ℤ → Type 0
  Loads ends b = AllByRecursion (λ (task : Task). IsWithinLimit limit (tasks_of origins ends heights) task.start b) (tasks_of origins ends heights)

  module _ (b : List ℤ) (within : BeginsWithin ss b) (ends : List Term) (many : length ends ≡ length origins) (are : AreEnds (values b origins) (term_values b lengths) (map (num b) ends)) where
    abbrev At : ℤ → Type 0
    At x = Related limit.relation (weighted_sum (term_values b heights) (running x (values b origins) (map (num b) ends))) (num b limit.bound)

    same_load : (t : Term) → dot (factors_of (tasks_of origins ends heights)) (map (share t b) (tasks_of origins ends heights)) ≡ weighted_sum (term_values b heights) (running (num b t) (values b origins) (map (num b) ends))
    same_load t = load_is_weighted b t origins ends heights

    natural : AreNatural (term_values b heights)
    natural = all_natural ss b heights within tasks.heights_in tasks.natural

    pub peak_says : Idle b → Loads ends b → IsCumulative (Meets b cond) (values b origins) (term_values b lengths) (term_values b heights)
    peak_says zero loads =
        let each : AllByRecursion (λ (task : Task). At (num b task.start)) (tasks_of origins ends heights) =
        all_map (λ (task : Task). IsWithinLimit limit (tasks_of origins ends heights) task.start b) (λ (task : Task). At (num b task.start)) (tasks_of origins ends heights)
        (λ (task : Task). subst (λ (x : ℤ). Related limit.relation x (num b limit.bound)) (same_load task.start)) loads in
        let starts : AllByRecursion At (values b origins) = all_starts b At origins ends heights many tasks.many_heights each in
        ((limits_have_peaks b cond is.is_limit).1 (values b origins) (term_values b lengths) (map (num b) ends) (term_values b heights) natural are).1
        (is.says b (pos 0) (subst (λ (x : ℤ). Related limit.relation x (num b limit.bound)) (number-Int b (pos 0)) zero), λ i lt. is.says b _ (all_at At (values b origins) i (pos 0) starts lt))

    pub peak_met : IsCumulative (Meets b cond) (values b origins) (term_values b lengths) (term_values b heights) → Idle b × Loads ends b
    peak_met h =
        let peaked = ((limits_have_peaks b cond is.is_limit).1 (values b origins) (term_values b lengths) (map (num b) ends) (term_values b heights) natural are).0 h in
        let starts : AllByRecursion At (values b origins) = all_of At (values b origins) (pos 0) (λ i lt. is.met b _ (peaked.1 i lt)) in (
          subst (λ (x : ℤ). Related limit.relation x (num b limit.bound)) (sym (number-Int b (pos 0))) (is.met b (pos 0) peaked.0),
          all_map (λ (task : Task). At (num b task.start)) (λ (task : Task). IsWithinLimit limit (tasks_of origins ends heights) task.start b) (tasks_of origins ends heights)
              (λ (task : Task). subst (λ (x : ℤ). Related limit.relation x (num b limit.bound)) (sym (same_load task.start))) (starts_all b At origins ends heights starts),
        )

  module _ (n : ℕ) (le : length ss ≤ n) where
    abbrev W : List ℤ → Type 0
    W = BeginsWithin ss

    with_idle : (G P : List ℤ → Type 0) (xs : List Item) (w : ℕ) → Rule W Always n xs w G P → Rule W Always n (low_idle limit ++ xs) (2 + w) (λ b. Always b × G b) (λ b. Idle b × P b)
    with_idle G P xs w r =
        rules_join W Always Always G Idle P n (low_idle limit) xs 2 w (rule_compare W Always n limit.relation (Int (pos 0)) limit.bound tt (is.before n le))
        (subst (λ (k : ℕ). Rule W (λ b. Always b × Always b) k xs w G P) (omega arith) (rule_under W Always (λ b. Always b × Always b) G P n xs w (λ b d. tt) r))

    loads_behind : (D : List ℤ → Type 0) (m : ℕ) (ends : List Term) → n ≤ m → AllBefore m ends
        → Rule W D m (low_loads ss limit (tasks_of origins ends heights) m (tasks_of origins ends heights)) (length (tasks_of origins ends heights) * load_weight (length (tasks_of origins ends heights))) Always (Loads ends)
    loads_behind D m ends above before =
        let all = tasks_before ss m origins ends heights (omega (arith, le, above)) tasks.origins_in before tasks.heights_in in
        loads_rule ss D m limit (tasks_of origins ends heights) (omega (arith, le, above)) (is.before m (omega (arith, le, above))) all m (tasks_of origins ends heights) (omega arith) all

    -- with new ends
    pub new_tasks_rule : Rule W Always n (low_tasks ss limit n origins lengths heights None)
        (2 + (length (beside origins lengths) * 8 + length (tasks_of origins (new_ends ss n origins lengths).terms heights) * load_weight (length (tasks_of origins (new_ends ss n origins lengths).terms heights))))
        (λ b. Always b × (map (num b) (new_ends ss n origins lengths).terms ≡ map (end_value b) (beside origins lengths))) (λ b. Idle b × Loads (new_ends ss n origins lengths).terms b)
    new_tasks_rule =
        let c : Outs = new_ends ss n origins lengths in
        let k : ℕ = n + made c.items in
        let V : List ℤ → List ℤ = λ b. map (end_value b) (beside origins lengths) in
        let G : List ℤ → Type 0 = λ b. map (num b) c.terms ≡ V b in
        let ts : List Task = tasks_of origins c.terms heights in
        let u : ℕ = length ts * load_weight (length ts) in
        let w : ℕ = length (beside origins lengths) * 8 in
        let ends = new_ends_rule ss Always n origins lengths le (stretches_of ss (beside origins lengths) tasks.stretches) in
        with_idle G (Loads c.terms) (behind_new ss limit n origins heights c) (w + u)
        (states_behind_all W Always n V (Loads c.terms) c (low_loads ss limit ts k ts) w u ends (loads_behind (λ b. Always b × G b) k c.terms (omega arith) ends.before))

    -- with ends that are given
    module _ (ends : List ℕ) (many : length ends ≡ length origins) (inside : AllByRecursion (IsFormedItem (length ss)) (map Variable ends)) where
      abbrev pub Stated : List ℤ → Type 0
      Stated b = AllByRecursion (λ (p : (ℕ × Operand) × ℕ). at b p.1 ≡ end_value b p.0) (beside (beside origins lengths) ends)

      pub given_tasks_rule : Rule W Always n (low_tasks ss limit n origins lengths heights (Some ends))
          (2 + (length (beside (beside origins lengths) ends) * 7 + length (tasks_of origins (map Var ends) heights) * load_weight (length (tasks_of origins (map Var ends) heights))))
          (λ b. Always b × (Always b × Always b)) (λ b. Idle b × (Stated b × Loads (map Var ends) b))
      given_tasks_rule =
          let xs : List Item = given_ends n origins lengths ends in
          let k : ℕ = n + made xs in
          let ts : List Task = tasks_of origins (map Var ends) heights in
          let u : ℕ = length ts * load_weight (length ts) in
          let w : ℕ = length (beside (beside origins lengths) ends) * 7 in
          let stated = given_ends_rule ss Always n origins lengths ends le (ended_in ss origins lengths ends tasks.origins_in tasks.lengths_in inside) in
          with_idle (λ b. Always b × Always b) (λ b. Stated b × Loads (map Var ends) b) (behind_given ss limit n origins heights ends xs) (w + u)
          (rules_join W Always Always Always Stated (Loads (map Var ends)) n xs (low_loads ss limit ts k ts) w u stated
          (loads_behind (λ b. Always b × Always b) k (map Var ends) (omega arith) (ends_before k ends (omega (arith, le)) inside)))
        where
          ends_before : (k : ℕ) (es : List ℕ) → length ss ≤ k → AllByRecursion (IsFormedItem (length ss)) (map Variable es) → AllBefore k (map Var es)
          ends_before k [] le h = tt
          ends_before k (e ∷ es) le h = (omega (arith, le, h.0), ends_before k es le h.1)

  -- the items are well formed
  module _ (n : ℕ) (bs : List Bool) (here : length bs ≡ n) (kinds : AreIntegers (length ss) bs) where
    loads_made : (m : ℕ) (cs : List Bool) (ends : List Term) → length cs ≡ m → AreIntegers (length ss) cs → AreIntegerTerms cs ends → AreFormed cs (low_loads ss limit (tasks_of origins ends heights) m (tasks_of origins ends heights))
    loads_made m cs ends long ints h =
        let all = tasks_formed ss cs origins ends heights ints tasks.origins_in h tasks.operands in
        loads_formed ss cs limit (tasks_of origins ends heights) (is.kind cs ints) is.neighbours all m cs (tasks_of origins ends heights) long (keeps_all cs) all

    pub tasks_made : (ends : Option (List ℕ)) → AreEndsIn ss ends → AreFormed bs (low_tasks ss limit n origins lengths heights ends)
    tasks_made None h =
        let c : Outs = new_ends ss n origins lengths in
        let cs : List Bool = bs ++ kinds_of c.items in
        let made_ends = new_ends_formed ss bs n here kinds origins lengths tasks.stretches in (
          formed_relation bs limit.relation (Int (pos 0)) limit.bound small_zero (is.kind bs kinds),
          formed_join bs c.items (low_loads ss limit (tasks_of origins c.terms heights) (n + made c.items) (tasks_of origins c.terms heights)) made_ends.formed
              (loads_made (n + made c.items) cs c.terms (kinds_behind bs n c.items here) (integers_kept (length ss) bs cs (keeps_behind bs (kinds_of c.items)) kinds) made_ends.terms),
        )
    tasks_made (Some es) h =
        let xs : List Item = given_ends n origins lengths es in
        let cs : List Bool = bs ++ kinds_of xs in
        let ints : AreIntegers (length ss) cs = integers_kept (length ss) bs cs (keeps_behind bs (kinds_of xs)) kinds in (
          formed_relation bs limit.relation (Int (pos 0)) limit.bound small_zero (is.kind bs kinds),
          formed_join bs xs (low_loads ss limit (tasks_of origins (map Var es) heights) (n + made xs) (tasks_of origins (map Var es) heights))
              (given_ends_formed ss bs n here kinds origins lengths es (ended_in ss origins lengths es tasks.origins_in tasks.lengths_in h))
              (loads_made (n + made xs) cs (map Var es) (kinds_behind bs n xs here) ints (ends_integers cs es ints h)),
        )
      where
        ends_integers : (cs : List Bool) (es : List ℕ) → AreIntegers (length ss) cs → AllByRecursion (IsFormedItem (length ss)) (map Variable es) → AreIntegerTerms cs (map Var es)
        ends_integers cs [] ints h = tt
        ends_integers cs (e ∷ es) ints h = (ints e h.0, ends_integers cs es ints h.1)
