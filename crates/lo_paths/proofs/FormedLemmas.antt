-- The items of an automaton are well formed.
use Rattle.std.proofs.Common.{◌≡◌, ℕ, ◌+◌, ◌<◌, Bool, true, false, Option, None, Some, List, [], ◌∷◌, ◌++◌, length, map, refl, ap, sym, subst, ◌∙◌, arith}
use Rattle.std.specs.List.{AllByRecursion}
use Rattle.std.proofs.lemmas.List.{map-append, append-nil}
use Rattle.fz_model.specs.declared.builtin.Builtin.TheVariants.{ArrayBoolAnd, ArrayBoolOr}
use Rattle.fz_model.specs.Limits.{IsSmall, exactly}
use Rattle.lo_base.specs.Formed.{kinds_of, AreFormed, Keeps, AreIntegers}
use Rattle.lo_base.specs.Item.{Item, Posted, made}
use Rattle.lo_base.proofs.Formed.{formed_join, keeps_behind, keeps_through}
use Rattle.lo_emit.specs.declared.literal.Literal.{Literal}
use Rattle.lo_emit.specs.declared.term.Term.{Term}
use Rattle.lo_emit.specs.declared.term.Term.TheVariants.{Int, Truth, Var}
use Rattle.lo_emit.specs.Emitted.{Out, Outs, truth_of_list, clause as clause_call}
use Rattle.lo_emit.specs.Literals.{Looked, literal_of}
use Rattle.lo_emit.specs.Loops.{Step}
use Rattle.lo_paths.specs.declared.path.Arrival.{Arrival}
use Rattle.lo_paths.specs.declared.path.Layer.{Layer}
use Rattle.lo_paths.specs.Path.{reach, passed, Gathered, arrive, arrive_step, edge_cell, gathered, targets_of, arriving, reached, next_layer, final_truths, low_layers}
use Rattle.lo_paths.proofs.Arrivals.{reach_all, arriving_all, finals_all}
use Rattle.lo_rules.specs.Formed.{IsLogic, AreLogicTerms, Makes}
use Rattle.lo_rules.specs.Literals.{IsTableFormed, IsCellFormed}
use Rattle.lo_rules.proofs.LiteralRules.{all_more, formed_literal}
use Rattle.lo_rules.proofs.Making.{formed_clause, logic_more, logics_more, makes_and}
use Rattle.lo_rules.proofs.Making.{makes_or}
use Rattle.lo_rules.proofs.MakingLoops.{formed_each, formed_in_turn, kinds_behind, kinds_in_a_row, logics_stay, makes_standing}
use Rattle.xs_model.specs.declared.instance.Edge.{Edge}

table_formed_more : (bs cs : List Bool) (ls : List Literal) → Keeps bs cs → IsTableFormed bs ls → IsTableFormed cs ls
table_formed_more bs cs [] keeps h = tt
table_formed_more bs cs (l ∷ ls) keeps h = (logic_more bs cs keeps l.truth h.0, table_formed_more bs cs ls keeps h.1)

passed_makes : (bs : List Bool) (n : ℕ) → length bs ≡ n → (r l : Term) → IsLogic bs r → IsLogic bs l → Makes IsLogic bs (passed n r l)
passed_makes bs n here (Truth true) l hr hl = makes_standing IsLogic logics_stay bs l hl
passed_makes bs n here (Truth false) l hr hl = makes_and bs n here (Truth false ∷ l ∷ []) (hr, (hl, tt))
passed_makes bs n here (Int z) l hr hl = makes_and bs n here (Int z ∷ l ∷ []) (hr, (hl, tt))
passed_makes bs n here (Var v) l hr hl = makes_and bs n here (Var v ∷ l ∷ []) (hr, (hl, tt))

abbrev IsSmallEdge : Edge → Type 0
IsSmallEdge e = IsSmall (exactly e.value)

abbrev IsGatheredFormed : List Bool → Gathered → Type 0
IsGatheredFormed bs s = IsTableFormed bs s.table × AreLogicTerms bs (map (λ a. a.truth) s.arrivals)

module _ (m x : ℕ) (lt : x < m) where
  arrive_formed : (bs : List Bool) (n : ℕ) (s : Gathered) (e : Edge) (layer : Layer) (o : Option Term) → reach layer.states layer.truths e.from ≡ o → length bs ≡ n → AreIntegers m bs → AreLogicTerms bs layer.truths → IsGatheredFormed bs s
      → IsSmallEdge e → AreFormed bs (arrive x n s e o).items × IsGatheredFormed (bs ++ kinds_of (arrive x n s e o).items) (arrive x n s e o).state
  arrive_formed bs n s e layer None is here kinds h k small = (tt, subst (λ (ks : List Bool). IsGatheredFormed ks s) (sym (append-nil bs)) k)
  arrive_formed bs n s e layer (Some r) is here kinds h k small =
      let l : Looked = literal_of n s.table (edge_cell x e) in
      let cs : List Bool = bs ++ kinds_of l.items in
      let o : Out = passed (n + made l.items) r l.term in
      let ds : List Bool = cs ++ kinds_of o.items in
      let first = formed_literal bs n s.table (edge_cell x e) here (record { variable = kinds x lt; value = small }) k.0 in
      let hr : IsLogic cs r = logic_more bs cs (keeps_behind bs (kinds_of l.items)) r (reach_all (IsLogic bs) layer.states layer.truths e.from r h is) in
      let second = passed_makes cs (n + made l.items) (kinds_behind bs n l.items here) r l.term hr first.2 in
      let row : ds ≡ bs ++ kinds_of (l.items ++ o.items) = kinds_in_a_row bs l.items o.items in
      let a : Arrival = record { state = e.to; truth = o.term } in
      let through : Keeps bs ds = keeps_through bs cs ds (keeps_behind bs (kinds_of l.items)) (keeps_behind cs (kinds_of o.items)) in (
        formed_join bs l.items o.items first.0 second.formed,
        subst (λ (ks : List Bool). IsGatheredFormed ks (arrive x n s e (Some r)).state) row (
          table_formed_more cs ds l.table (keeps_behind cs (kinds_of o.items)) first.1,
          subst (AreLogicTerms ds) (sym (map-append (λ (c : Arrival). c.truth) s.arrivals (a ∷ []))) (all_more (IsLogic ds) (map (λ c. c.truth) s.arrivals) o.term (logics_more bs ds through (map (λ c. c.truth) s.arrivals) k.1) second.term),
        ),
      )

  more_integers : (bs cs : List Bool) → AreIntegers m bs → Keeps bs cs → AreIntegers m cs
  more_integers bs cs kinds keeps v below = keeps v false (kinds v below)

  any_state : (qs : List ℕ) → AllByRecursion (λ q. Unit {0}) qs
  any_state [] = tt
  any_state (q ∷ qs) = (tt, any_state qs)

  layer_formed : (bs : List Bool) (n : ℕ) (edges : List Edge) (layer : Layer) → length bs ≡ n → AreIntegers m bs → AreLogicTerms bs layer.truths → AllByRecursion IsSmallEdge edges
      → AreFormed bs (next_layer edges n layer x).items × AreLogicTerms (bs ++ kinds_of (next_layer edges n layer x).items) (next_layer edges n layer x).state.truths
  layer_formed bs n edges layer here kinds h small =
      let g : Step Gathered = gathered edges n layer x in
      let rs : List Arrival = g.state.arrivals in
      let k : ℕ = n + made g.items in
      let cs : List Bool = bs ++ kinds_of g.items in
      let c : Outs = reached rs k (targets_of rs) in
      let first =
      formed_in_turn bs IsSmallEdge IsGatheredFormed (arrive_step x layer)
      (λ j ds s e long keeps ks q. arrive_formed ds j s e layer (reach layer.states layer.truths e.from) refl long (more_integers bs ds kinds keeps) (logics_more bs ds keeps layer.truths h) ks q) n bs
      (record { table = []; arrivals = [] }) edges here (λ v t e. e) (tt, tt) small in
      let second =
      formed_each cs (λ (q : ℕ). Unit {0}) IsLogic logics_stay (λ j q. truth_of_list j ArrayBoolOr (arriving q rs))
      (λ j ds q long keeps t. makes_or ds j long (arriving q rs) (arriving_all (IsLogic ds) q rs (logics_more cs ds keeps (map (λ a. a.truth) rs) first.1.1))) k cs (targets_of rs) (kinds_behind bs n g.items here) (λ v t e. e) (any_state (targets_of rs)) in
      (formed_join bs g.items c.items first.0 second.formed, subst (λ (ks : List Bool). AreLogicTerms ks c.terms) (kinds_in_a_row bs g.items c.items) second.terms)

module _ (m : ℕ) (edges : List Edge) (finals : List ℕ) (small : AllByRecursion IsSmallEdge edges) where
  pub layers_formed : (bs : List Bool) (n : ℕ) (layer : Layer) (xs : List ℕ) → length bs ≡ n → AreIntegers m bs → AreLogicTerms bs layer.truths → AllByRecursion (λ x. x < m) xs → AreFormed bs (low_layers edges finals n layer xs)
  layers_formed bs n layer [] here kinds h below = (formed_clause bs (final_truths finals layer.states layer.truths) [] (finals_all finals (IsLogic bs) layer.states layer.truths h) tt, tt)
  layers_formed bs n layer (x ∷ xs) here kinds h below =
      let c : Step Layer = next_layer edges n layer x in
      let k : ℕ = n + made c.items in
      let cs : List Bool = bs ++ kinds_of c.items in
      let one = layer_formed m x below.0 bs n edges layer here kinds h small in
      formed_join bs c.items (low_layers edges finals k c.state xs) one.0
      (layers_formed cs k c.state xs (kinds_behind bs n c.items here) (more_integers m x below.0 bs cs kinds (keeps_behind bs (kinds_of c.items))) one.1 below.1)
