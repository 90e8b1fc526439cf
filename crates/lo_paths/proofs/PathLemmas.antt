-- What the items of an automaton mean.
use Rattle.std.proofs.Common.{◌≡◌, ◌↔◌, ℕ, suc, ◌+◌, ◌*◌, ◌<◌, ◌≤◌, ℤ, pos, Bool, true, false, not, ◌&&◌, ◌||◌, if◌then◌else◌, Option, None, Some, List, [], ◌∷◌, ◌++◌, length, map, refl, ap, ap₂, sym, subst, ◌∙◌, arith, true≢false}
use Rattle.std.specs.Prelude.{eqb, filter}
use Rattle.std.specs.List.{AllByRecursion, list_any, list_all}
use Rattle.std.specs.Ordering.{int_eq}
use Rattle.std.proofs.lemmas.List.{length-map, append-nil, map-append}
use Rattle.fz_model.specs.declared.builtin.Builtin.TheVariants.{ArrayBoolAnd, ArrayBoolOr}
use Rattle.fz_model.specs.Meaning.{at, truth, is_one, clause}
use Rattle.fz_model.proofs.Calls.{number-Bool}
use Rattle.lo_base.specs.Item.{Item, Posted, made}
use Rattle.lo_base.proofs.Solving.{made-append}
use Rattle.lo_emit.specs.declared.literal.Cell.{Cell}
use Rattle.lo_emit.specs.declared.term.Term.{Term}
use Rattle.lo_emit.specs.declared.term.Term.TheVariants.{Int, Truth, Var}
use Rattle.lo_emit.specs.Emitted.{Out, Outs, truth_of_list, clause as clause_call}
use Rattle.lo_emit.specs.Literals.{Looked, literal_of}
use Rattle.lo_emit.specs.Loops.{Step, in_turn}
use Rattle.lo_rules.specs.Literals.{has_value, TableSays, IsTableBefore}
use Rattle.lo_rules.specs.Rule.{num, Before, AllBefore, Always, Rule, Yields, YieldsAll}
use Rattle.lo_rules.proofs.LiteralRules.{all_more, table_more, literal_before, rule_literal}
use Rattle.lo_rules.proofs.Loops.{kept_in_turn, gives_in_turn}
use Rattle.lo_rules.proofs.Pairs.{each_long}
use Rattle.lo_rules.proofs.Rules.{rules_join, rule_as}
use Rattle.lo_rules.proofs.Atoms.{rule_none}
use Rattle.lo_rules.proofs.Terms.{before_more, all_before_more, yields_and, yields_or, yields_as, yields_standing, rule_clause}
use Rattle.lo_rules.proofs.Tests.{one_truth, truth_one}
use Rattle.lo_paths.specs.declared.path.Arrival.{Arrival}
use Rattle.lo_paths.specs.declared.path.Layer.{Layer}
use Rattle.lo_paths.specs.Path.{reach, passed, taken, Gathered, arrived, arrive, arrive_step, edge_cell, gathered, targets_of, arriving, reached, next_layer, final_truths, low_layers}
use Rattle.lo_paths.proofs.Arrivals.{filter_more, filter_few, reach_none, reach_some, reach_all, reach_value, Match, match_more, arrives_as, arriving_all, finals_all, finals_few, finals_as}
use Rattle.lo_paths.proofs.Targets.{filter_twice}
use Rattle.lo_paths.proofs.Weighted.{total, yields_weighted}
use Rattle.lo_paths.proofs.Totals.{targets_few, reached_few}
use Rattle.xs_model.specs.declared.instance.Edge.{Edge}
use Rattle.xs_paths.specs.Carried.{is_next, is_accepted_from}
use Rattle.xs_paths.specs.Layers.{once, targets, finals_of}

-- whether both are true

and_one : (t : Bool) → (t && true) ≡ t
and_one true = refl
and_one false = refl

module _ (W D : List ℤ → Type 0) (n : ℕ) (l : Term) (s t : List ℤ → Bool) (hl : Before n l) (second : (b : List ℤ) → D b → num b l ≡ truth (t b)) where
  yields_both : (r : Term) → Before n r → ((b : List ℤ) → D b → num b r ≡ truth (s b)) → Yields W D n (truth_of_list n ArrayBoolAnd (r ∷ l ∷ [])) 4 (λ b. truth (s b && t b))
  yields_both r hr first =
      yields_as W D D n (truth_of_list n ArrayBoolAnd (r ∷ l ∷ [])) 4 4 (λ b. truth (list_all is_one (map (num b) (r ∷ l ∷ [])))) (λ b. truth (s b && t b)) (λ b d. d)
      (λ b d. ap truth (ap₂ (λ (p q : Bool). p && q) (ap is_one (first b d) ∙ one_truth (s b)) (ap (λ (p : Bool). p && true) (ap is_one (second b d) ∙ one_truth (t b)) ∙ and_one (t b)))) (omega arith)
      (yields_and W D n (r ∷ l ∷ []) (hr, (hl, tt)))

  yields_passed : (r : Term) → Before n r → ((b : List ℤ) → D b → num b r ≡ truth (s b)) → Yields W D n (passed n r l) 4 (λ b. truth (s b && t b))
  yields_passed (Truth true) hr first =
      yields_as W D D n (passed n (Truth true) l) 0 4 (λ b. truth (s b && t b)) (λ b. truth (s b && t b)) (λ b d. d) (λ b d. refl) (omega arith)
      (yields_standing W D n l (λ b. truth (s b && t b)) hl
      (λ b d. second b d ∙ ap (λ (p : Bool). truth (p && t b)) (sym (truth_one (s b) (sym (first b d) ∙ number-Bool b true)))))
  yields_passed (Truth false) hr first = yields_both (Truth false) hr first
  yields_passed (Int z) hr first = yields_both (Int z) hr first
  yields_passed (Var v) hr first = yields_both (Var v) hr first

-- one layer

abbrev pub live : List ℕ → Edge → Bool
live qs e = list_any (eqb e.from) qs

abbrev pub takes : (ℕ → Bool) → ℤ → Edge → Bool
takes f z e = f e.from && int_eq z e.value

module _ (n : ℕ) (x : ℕ) (lt : x < n) (layer : Layer) (even : length layer.truths ≡ length layer.states) (before : AllBefore n layer.truths) (W D : List ℤ → Type 0) (F : List ℤ → ℕ → Bool) where
  abbrev Said : List ℤ → Type 0
  Said b = D b × (map (num b) layer.truths ≡ map (λ q. truth (F b q)) layer.states)

  abbrev Any : Edge → Type 0
  Any e = Unit {0}

  abbrev Knows : ℕ → List Edge → Gathered → Type 0
  Knows k done s = IsTableBefore k s.table × AllBefore k (map (λ a. a.truth) s.arrivals) × (map (λ a. a.state) s.arrivals ≡ map (λ e. e.to) (filter (live layer.states) done))

  abbrev Tells : List Edge → Gathered → List ℤ → Type 0
  Tells done s b = TableSays s.table b × Match (takes (F b) (at b x)) b s.arrivals (filter (live layer.states) done)

  more_if : (done : List Edge) (e : Edge) (t : Bool) → live layer.states e ≡ t → filter (live layer.states) (done ++ e ∷ []) ≡ filter (live layer.states) done ++ (if t then e ∷ [] else [])
  more_if done e t is = filter_more (live layer.states) done e ∙ ap (λ (s : Bool). filter (live layer.states) done ++ (if s then e ∷ [] else [])) is

  arrive_knows : (k : ℕ) (done : List Edge) (s : Gathered) (e : Edge) (o : Option Term) → reach layer.states layer.truths e.from ≡ o → n ≤ k → Knows k done s
      → Knows (k + made (arrive x k s e o).items) (done ++ e ∷ []) (arrive x k s e o).state
  arrive_knows k done s e None is le h =
      let same : filter (live layer.states) (done ++ e ∷ []) ≡ filter (live layer.states) done = more_if done e false (reach_none layer.states layer.truths e.from even is) ∙ append-nil (filter (live layer.states) done) in
      (table_more k (k + 0) s.table (omega arith) h.0, all_before_more k (k + 0) (map (λ a. a.truth) s.arrivals) (omega arith) h.1, h.2 ∙ ap (map (λ (f : Edge). f.to)) (sym same))
  arrive_knows k done s e (Some r) is le h =
      let l : Looked = literal_of k s.table (edge_cell x e) in
      let m : ℕ = k + made l.items in
      let o : Out = passed m r l.term in
      let end : ℕ = k + made (l.items ++ o.items) in
      let a : Arrival = record { state = e.to; truth = o.term } in
      let b0 = literal_before k s.table (edge_cell x e) h.0 in
      let hr : Before m r = before_more n m r (omega (arith, le)) (reach_all (Before n) layer.states layer.truths e.from r before is) in
      let far : m + made o.items ≡ end = omega (arith, made-append l.items o.items) in
      let same = more_if done e true (reach_some layer.states layer.truths e.from r is) in (
        table_more m end l.table (omega (arith, far)) b0.0,
        subst (AllBefore end) (sym (map-append (λ (c : Arrival). c.truth) s.arrivals (a ∷ []))) (all_more (Before end) (map (λ c. c.truth) s.arrivals) o.term (all_before_more k end (map (λ c. c.truth) s.arrivals) (omega (arith, far)) h.1) (subst (λ (j : ℕ). Before j o.term) far (passed_before m r l.term hr b0.1))),
        map-append (λ (c : Arrival). c.state) s.arrivals (a ∷ []) ∙ ap (λ (qs : List ℕ). qs ++ e.to ∷ []) h.2 ∙ sym (map-append (λ (f : Edge). f.to) (filter (live layer.states) done) (e ∷ [])) ∙ ap (map (λ (f : Edge). f.to)) (sym same),
      )
    where
      passed_before : (m : ℕ) (r l : Term) → Before m r → Before m l → Before (m + made (passed m r l).items) (passed m r l).term
      passed_before m (Truth true) l hr hl = before_more m (m + 0) l (omega arith) hl
      passed_before m (Truth false) l hr hl = omega arith
      passed_before m (Int z) l hr hl = omega arith
      passed_before m (Var v) l hr hl = omega arith

  arrive_rule : (k : ℕ) (done : List Edge) (s : Gathered) (e : Edge) (o : Option Term) → reach layer.states layer.truths e.from ≡ o → n ≤ k → Knows k done s
      → Rule W (λ b. Said b × Tells done s b) k (arrive x k s e o).items 8 (λ b. Tells (done ++ e ∷ []) (arrive x k s e o).state b) Always
  arrive_rule k done s e None is le h =
      let same : filter (live layer.states) (done ++ e ∷ []) ≡ filter (live layer.states) done = more_if done e false (reach_none layer.states layer.truths e.from even is) ∙ append-nil (filter (live layer.states) done) in
      rule_none W (λ b. Said b × Tells done s b) (λ b. Tells (done ++ e ∷ []) s b) k 8 (λ b d. (d.1.0, subst (Match (takes (F b) (at b x)) b s.arrivals) (sym same) d.1.1))
  arrive_rule k done s e (Some r) is le h =
      let c : Cell = edge_cell x e in
      let l : Looked = literal_of k s.table c in
      let m : ℕ = k + made l.items in
      let o : Out = passed m r l.term in
      let E : List ℤ → Type 0 = λ b. Said b × Tells done s b in
      let T : List ℤ → Type 0 = λ b. E b × TableSays s.table b in
      let G : List ℤ → Type 0 = λ b. TableSays l.table b × (num b l.term ≡ truth (has_value b c)) in
      let H : List ℤ → Type 0 = λ b. num b o.term ≡ truth (F b e.from && has_value b c) in
      let hr : Before m r = before_more n m r (omega (arith, le)) (reach_all (Before n) layer.states layer.truths e.from r before is) in
      let same = more_if done e true (reach_some layer.states layer.truths e.from r is) in
      let first = rule_literal W E k s.table c (omega (arith, lt, le)) in
      let second =
      yields_passed W (λ b. T b × G b) m l.term (λ b. F b e.from) (λ b. has_value b c) (literal_before k s.table c h.0).1 (λ b d. d.1.1) r hr
      (λ b d. reach_value b (F b) layer.states layer.truths e.from r d.0.0.0.1 is) in
      rule_as W T E (λ b. G b × H b) (λ b. Tells (done ++ e ∷ []) (arrive x k s e (Some r)).state b) (λ b. Always b × Always b) Always k (l.items ++ o.items) (4 + 4) 8 (λ b d. (d, d.1.0))
      (λ b d g. (g.0.0, subst (Match (takes (F b) (at b x)) b (s.arrivals ++ record { state = e.to; truth = o.term } ∷ [])) (sym same) (match_more (takes (F b) (at b x)) b s.arrivals (filter (live layer.states) done) (record { state = e.to; truth = o.term }) e d.1.1 refl g.1)))
      (λ b d g p. tt) (λ b w d g p. (tt, tt)) (omega arith) (rules_join W T G H Always Always k l.items o.items 4 4 first second.rule)

  any_all : (es : List Edge) → AllByRecursion Any es
  any_all [] = tt
  any_all (e ∷ es) = (tt, any_all es)

  module _ (edges : List Edge) where
    start : Gathered
    start = record { table = []; arrivals = [] }

    gather_knows : Knows (n + made (gathered edges n layer x).items) edges (gathered edges n layer x).state
    gather_knows =
        kept_in_turn Any Knows (arrive_step x layer) n (λ k ds s e le h q. arrive_knows k ds s e (reach layer.states layer.truths e.from) refl le h) n [] (record { table = []; arrivals = [] }) edges (omega arith) (tt, tt, refl) (any_all edges)

    gather_rule : Rule W Said n (gathered edges n layer x).items (length edges * 8) (λ b. Tells edges (gathered edges n layer x).state b) Always
    gather_rule =
        gives_in_turn W Said Any Knows (λ ds s b. Tells ds s b) (arrive_step x layer) n 8 (λ k ds s e le h q. arrive_knows k ds s e (reach layer.states layer.truths e.from) refl le h)
        (λ k ds s e le h q. arrive_rule_in k ds s e le h) n (record { table = []; arrivals = [] }) edges (omega arith) (tt, tt, refl) (λ b d. (tt, tt)) (any_all edges)
      where
        arrive_rule_in : (k : ℕ) (ds : List Edge) (s : Gathered) (e : Edge) → n ≤ k → Knows k ds s → Rule W (λ b. Said b × Tells ds s b) k (arrive_step x layer k s e).items 8 (λ b. Tells (ds ++ e ∷ []) (arrive_step x layer k s e).state b) Always
        arrive_rule_in k ds s e le h = arrive_rule k ds s e (reach layer.states layer.truths e.from) refl le h

    -- a next state is reached where a transition to it is taken
    next_is : (b : List ℤ) (q : ℕ) (rs : List Arrival) → Match (takes (F b) (at b x)) b rs (filter (live layer.states) edges) → list_any is_one (map (num b) (arriving q rs)) ≡ is_next edges layer.states (F b) (at b x) q
    next_is b q rs h =
        arrives_as (takes (F b) (at b x)) b q rs (filter (live layer.states) edges) h
        ∙ ap (list_any (takes (F b) (at b x))) (filter_twice (λ e. eqb e.to q) (live layer.states) (λ e. eqb e.to q && live layer.states e) (λ e. and_turned (live layer.states e) (eqb e.to q)) edges)
      where
        and_turned : (s t : Bool) → (s && t) ≡ (t && s)
        and_turned true true = refl
        and_turned true false = refl
        and_turned false true = refl
        and_turned false false = refl

    abbrev Next : List ℤ → ℕ → Bool
    Next b = is_next edges layer.states (F b) (at b x)

    said_next : (b : List ℤ) (rs : List Arrival) (qs : List ℕ) → Match (takes (F b) (at b x)) b rs (filter (live layer.states) edges)
        → map (λ q. truth (list_any is_one (map (num b) (arriving q rs)))) qs ≡ map (λ q. truth (Next b q)) qs
    said_next b rs [] h = refl
    said_next b rs (q ∷ qs) h = ap₂ (λ (z : ℤ) (zs : List ℤ). z ∷ zs) (ap truth (next_is b q rs h)) (said_next b rs qs h)

    arrivals_few : length (gathered edges n layer x).state.arrivals ≤ length edges
    arrivals_few =
        let rs : List Arrival = (gathered edges n layer x).state.arrivals in
        let same : length (map (λ a. a.state) rs) ≡ length (map (λ e. e.to) (filter (live layer.states) edges)) = ap length gather_knows.2 in
        let few = filter_few (live layer.states) edges in
        omega (arith, same, length-map rs (λ (a : Arrival). a.state), length-map (filter (live layer.states) edges) (λ (e : Edge). e.to), few)

    reached_rule : (D' : List ℤ → Type 0) (m : ℕ) → AllBefore m (map (λ a. a.truth) (gathered edges n layer x).state.arrivals)
        → YieldsAll W D' m (reached (gathered edges n layer x).state.arrivals m (targets_of (gathered edges n layer x).state.arrivals))
        (total (λ q. 2 + length (arriving q (gathered edges n layer x).state.arrivals)) (targets_of (gathered edges n layer x).state.arrivals))
        (λ b. map (λ q. truth (list_any is_one (map (num b) (arriving q (gathered edges n layer x).state.arrivals)))) (targets_of (gathered edges n layer x).state.arrivals))
    reached_rule D' m h =
        let rs : List Arrival = (gathered edges n layer x).state.arrivals in
        yields_weighted W D' m (λ q. 2 + length (arriving q rs)) (λ k q. truth_of_list k ArrayBoolOr (arriving q rs)) (λ b q. truth (list_any is_one (map (num b) (arriving q rs))))
        (λ k q le. yields_or W D' k (arriving q rs) (arriving_all (Before k) q rs (all_before_more m k (map (λ a. a.truth) rs) le h))) m (targets_of rs) (omega arith)

    layer_rule : Rule W Said n (next_layer edges n layer x).items (length edges * 11) (λ b. map (num b) (next_layer edges n layer x).state.truths ≡ map (λ q. truth (Next b q)) (next_layer edges n layer x).state.states) Always
    layer_rule =
        let g : Step Gathered = gathered edges n layer x in
        let rs : List Arrival = g.state.arrivals in
        let m : ℕ = n + made g.items in
        let c : Outs = reached rs m (targets_of rs) in
        let G : List ℤ → Type 0 = λ b. Tells edges g.state b in
        let H : List ℤ → Type 0 = λ b. map (num b) c.terms ≡ map (λ q. truth (list_any is_one (map (num b) (arriving q rs)))) (targets_of rs) in
        let w : ℕ = total (λ q. 2 + length (arriving q rs)) (targets_of rs) in
        let few = reached_few rs in
        let all = arrivals_few in
        rule_as W Said Said (λ b. G b × H b) (λ b. map (num b) c.terms ≡ map (λ q. truth (Next b q)) (targets_of rs)) (λ b. Always b × Always b) Always n (g.items ++ c.items) (length edges * 8 + w) (length edges * 11) (λ b d. d)
        (λ b d h. h.1 ∙ said_next b rs (targets_of rs) h.0.1) (λ b d h p. tt) (λ b y d h p. (tt, tt)) (omega (arith, few, all))
        (rules_join W Said G H Always Always n g.items c.items (length edges * 8) w gather_rule (reached_rule (λ b. Said b × G b) m gather_knows.1).rule)

    next_before : AllBefore (n + made (next_layer edges n layer x).items) (next_layer edges n layer x).state.truths
    next_before =
        let g : Step Gathered = gathered edges n layer x in
        let m : ℕ = n + made g.items in
        let c : Outs = reached g.state.arrivals m (targets_of g.state.arrivals) in
        all_before_more (m + made c.items) (n + made (g.items ++ c.items)) c.terms (omega (arith, made-append g.items c.items)) (reached_rule Always m gather_knows.1).before

    next_even : length (next_layer edges n layer x).state.truths ≡ length (next_layer edges n layer x).state.states
    next_even =
        let g : Step Gathered = gathered edges n layer x in
        each_long (λ k q. truth_of_list k ArrayBoolOr (arriving q g.state.arrivals)) (n + made g.items) (targets_of g.state.arrivals)

    next_states : (next_layer edges n layer x).state.states ≡ targets edges layer.states
    next_states = ap once gather_knows.2

    next_few : length (next_layer edges n layer x).state.states ≤ length edges
    next_few = let few = targets_few (gathered edges n layer x).state.arrivals in let all = arrivals_few in omega (arith, few, all)

-- all layers

or_false : (t : Bool) → (t || false) ≡ t
or_false true = refl
or_false false = refl

layers_room : (k e : ℕ) → e * 11 + (k * (e * 11) + (1 + e)) ≤ suc k * (e * 11) + (1 + e)
layers_room k e = grind arith

module _ (edges : List Edge) (finals : List ℕ) (W : List ℤ → Type 0) (m : ℕ) where
  pub layers_rule : (D : List ℤ → Type 0) (n : ℕ) (layer : Layer) (F : List ℤ → ℕ → Bool) (xs : List ℕ) → AllByRecursion (λ x. x < m) xs → m ≤ n → length layer.truths ≡ length layer.states → AllBefore n layer.truths
      → length layer.states ≤ 1 + length edges
      → Rule W (λ b. D b × (map (num b) layer.truths ≡ map (λ q. truth (F b q)) layer.states)) n (low_layers edges finals n layer xs) (length xs * (length edges * 11) + (1 + length edges)) Always
      (λ b. is_accepted_from edges finals layer.states (F b) (map (at b) xs) ≡ true)
  layers_rule D n layer F [] below le even before few =
      let S : List ℤ → Type 0 = λ b. D b × (map (num b) layer.truths ≡ map (λ q. truth (F b q)) layer.states) in
      let ts : List Term = final_truths finals layer.states layer.truths in
      let P : List ℤ → Type 0 = λ b. clause (map (num b) ts) [] ≡ true in
      let is : (b : List ℤ) → S b → clause (map (num b) ts) [] ≡ list_any (F b) (finals_of finals layer.states) = λ b d. or_false (list_any is_one (map (num b) ts)) ∙ finals_as finals b (F b) layer.states layer.truths d.1 in
      let less = finals_few finals layer.states layer.truths in
      rule_as W S S Always Always P (λ b. is_accepted_from edges finals layer.states (F b) [] ≡ true) n (low_layers edges finals n layer []) (length ts + 0) (length {A = ℕ} [] * (length edges * 11) + (1 + length edges)) (λ b d. d) (λ b d g. tt)
      (λ b d g p. sym (is b d) ∙ p) (λ b y d g p. is b d ∙ p) (omega (arith, less, few)) (rule_clause W S n ts [] (finals_all finals (Before n) layer.states layer.truths before) tt)
  layers_rule D n layer F (x ∷ xs) below le even before few =
      let S : List ℤ → Type 0 = λ b. D b × (map (num b) layer.truths ≡ map (λ q. truth (F b q)) layer.states) in
      let lt : x < n = omega (arith, below.0, le) in
      let c : Step Layer = next_layer edges n layer x in
      let k : ℕ = n + made c.items in
      let N : List ℤ → ℕ → Bool = λ b. is_next edges layer.states (F b) (at b x) in
      let G : List ℤ → Type 0 = λ b. map (num b) c.state.truths ≡ map (λ q. truth (N b q)) c.state.states in
      let P : List ℤ → Type 0 = λ b. is_accepted_from edges finals c.state.states (N b) (map (at b) xs) ≡ true in
      let w : ℕ = length xs * (length edges * 11) + (1 + length edges) in
      let same : c.state.states ≡ targets edges layer.states = next_states n x lt layer even before W D F edges in
      let less = next_few n x lt layer even before W D F edges in
      let second =
      layers_rule S k c.state N xs below.1 (omega (arith, le)) (next_even n x lt layer even before W D F edges) (next_before n x lt layer even before W D F edges) (omega (arith, less)) in
      rule_as W S S (λ b. G b × Always b) Always (λ b. Always b × P b) (λ b. is_accepted_from edges finals layer.states (F b) (map (at b) (x ∷ xs)) ≡ true) n (c.items ++ low_layers edges finals k c.state xs) (length edges * 11 + w)
      (length (x ∷ xs) * (length edges * 11) + (1 + length edges)) (λ b d. d) (λ b d g. tt) (λ b d g p. subst (λ (qs : List ℕ). is_accepted_from edges finals qs (N b) (map (at b) xs) ≡ true) same p.1)
      (λ b y d g p. (tt, subst (λ (qs : List ℕ). is_accepted_from edges finals qs (N b) (map (at b) xs) ≡ true) (sym same) p)) (layers_room (length xs) (length edges))
      (rules_join W S G Always Always P n c.items (low_layers edges finals k c.state xs) (length edges * 11) w (layer_rule n x lt layer even before W D F edges) second)
