-- What is written of a sound model is read as it.
use Rattle.std.proofs.Common.{◌≡◌, ◌≢◌, ℕ, ◌-◌, Bool as Truth, true, false, ℤ, ◌≤◌, List, [], ◌∷◌, ◌++◌, length, map, Option, None, Result, Ok, refl, ap, sym, subst, ◌∙◌, arith, append_assoc, append-nil, ◌+◌}
use Rattle.std.specs.Prelude.{AllPairs}
use Rattle.std.specs.List.{AllByRecursion, sum_by}
use Rattle.std.proofs.lemmas.List.Sums.{sum_by-cons}
use Rattle.std.proofs.lemmas.List.{map-append}
use Rattle.xf_text.specs.declared.fault.Fault.{Fault}
use Rattle.fz_model.specs.declared.model.Call.{Call}
use Rattle.fz_model.specs.declared.model.FzVar.{FzVar}
use Rattle.fz_model.specs.declared.model.Model.{Model}
use Rattle.fz_model.specs.declared.model.Output.{Output}
use Rattle.fz_model.specs.Limits.{most_variables}
use Rattle.fz_model.specs.Size.{call_leaves as leaves_of_call}
use Rattle.fz_model.specs.Sound.{AreVars, IsOutput, IsCall, booleans_of, IsSound}
use Rattle.fz_file.specs.Layout.{name_at, names_of, layout}
use Rattle.fz_tokens.specs.Tokens.{Placed, tokens_of}
use Rattle.fz_grammar.specs.Levels.{words}
use Rattle.fz_grammar.specs.Items.{rank, IsModel, solve}
use Rattle.fz_grammar.specs.Placing.{AreAt}
use Rattle.fz_grammar.specs.declared.tree.Goal.{Goal as WrittenGoal}
use Rattle.fz_grammar.specs.declared.tree.Goal.TheVariants as written_goal
use Rattle.fz_grammar.specs.declared.tree.Item.{Item}
use Rattle.fz_grammar.specs.declared.tree.Reading.{Reading}
use Rattle.fz_grammar.specs.declared.tree.Syntax.{Syntax}
use Rattle.fz_values.specs.declared.meaning.Meaning.{Meaning}
use Rattle.fz_values.specs.Names.{look_up}
use Rattle.fz_items.specs.declared.condition.Condition.{Condition}
use Rattle.fz_items.specs.declared.condition.Meets.{Meets}
use Rattle.fz_items.specs.declared.progress.Progress.{Progress}
use Rattle.fz_items.specs.Conditions.{first_missed, in_order, lasting}
use Rattle.fz_items.specs.Progress.{begun, with_name, with_var, with_output, with_call}
use Rattle.fz_items.specs.Items.{type_leaves, item_behind, solve_meets, item_meets}
use Rattle.fz_items.specs.Outcome.{fault_or, items_outcome, model_of, ended, outcome}
use Rattle.fz_read.specs.Reading.{unplaced, AreItems, AreAlike}
use Rattle.fz_again.specs.Tree.{type_of, var_item, output_item, call_item, goal_of, tree_of, HasTree, WrittenAgain}
use Rattle.fz_again.specs.Counts.{var_members, leaves_of, IsWithinCounts, ReadAgain}
use Rattle.fz_again.proofs.Items.{Leaves, placed_call, room_behind, call_leaves, var_leaves, array_is, array_leaves, output_leaves, goal_met, goal_again}
use Rattle.fz_again.proofs.Levels.{low_layout}
use Rattle.fz_again.proofs.Names.{var_is, Knows, AreNew, new_more, none_known, pairs_first, pairs_rest, name_here, knows_more, knows_still}
use Rattle.fz_again.proofs.Trees.{length_mapped}
use Rattle.fz_again.proofs.Whole.{reads_as_tree, has_items}

-- each item has its place
as_many : (before : ℕ) (xs : List Item) (ls : List ℕ) (tokens : List Placed) (end : ℕ) (rest : List Placed) → AreAt before xs ls tokens end rest → length ls ≡ length xs
as_many before [] [] tokens end rest h = refl
as_many before [] (l ∷ ls) tokens end rest h = absurd h
as_many before (x ∷ xs) [] tokens end rest h = absurd h
as_many before (x ∷ xs) (l ∷ ls) tokens end rest h = omega (arith, as_many (rank x) xs ls h.0 end rest h.2)

in_order_met : (a b c d e f g : Truth) → first_missed lasting (record { known = a; naming = b; kinds = c; magnitude = d; shape = e; counting = f; bounded = g }) ≡ None → f ≡ true
    → first_missed in_order (record { known = a; naming = b; kinds = c; magnitude = d; shape = e; counting = f; bounded = g }) ≡ None
in_order_met true true true true true true true h i = refl
in_order_met true true true true true true false h i = cc
in_order_met true true true true true false g h i = cc
in_order_met true true true true false f g h i = cc
in_order_met true true true false e f g h i = cc
in_order_met true true false d e f g h i = cc
in_order_met true false c d e f g h i = cc
in_order_met false b c d e f g h i = cc

counted_too : (m : Meets) → first_missed lasting m ≡ None → m.counting ≡ true → first_missed in_order m ≡ None
counted_too m h i = in_order_met m.known m.naming m.kinds m.magnitude m.shape m.counting m.bounded h i

-- the objective counts for nothing
goal_counting : (a : Progress) (g : WrittenGoal) → (solve_meets a (solve [] g)).counting ≡ true
goal_counting a written_goal.Satisfy = refl
goal_counting a (written_goal.Minimize x) = refl
goal_counting a (written_goal.Maximize x) = refl

abbrev output_members : Output → ℕ
output_members o = length o.members

abbrev Differ : List (List ℕ) → Type 0
Differ ws = AllPairs (λ a b. a ≢ b) ws

abbrev var_names : List FzVar → List (List ℕ)
var_names vs = map (λ (v : FzVar). v.name) vs

abbrev output_names : List Output → List (List ℕ)
output_names os = map (λ (o : Output). o.name) os

module _ (bound : Option ℤ) (m : Model) (size : ℕ) where
  abbrev names : List (List ℕ)
  names = names_of m.vars

  abbrev booleans : List Truth
  booleans = booleans_of m.vars

  abbrev Told : List Condition → Progress → List Item → List ℕ → Result Progress Fault
  Told asked p xs ls = items_outcome asked bound size p xs ls

  -- what is read of all items, which have so many leaves and variables
  record Arrives (p : Progress) (xs : List Item) (ls : List ℕ) (leaves more : ℕ) : Type 0 where
    pub last : Progress
    pub is : Told lasting p xs ls ≡ Ok last
    pub counted : leaves ≤ p.room → length p.vars + more ≤ most_variables → Told in_order p xs ls ≡ Ok last
    pub vars : last.vars ≡ m.vars
    pub outputs : last.outputs ≡ m.outputs
    pub calls : map unplaced last.calls ≡ map unplaced m.calls
    pub knows : Knows names booleans last.names

  turn : (p q : Progress) (x : Item) (xs : List Item) (l : ℕ) (ls : List ℕ) (leaves more later others : ℕ) → Leaves bound p x (size - l) q leaves more → Arrives q xs ls later others → Arrives p (x ∷ xs) (l ∷ ls) (leaves + later) (more + others)
  turn p q x xs l ls leaves more later others s h =
      let behind : Progress = item_behind bound p x (size - l) in
      record {
        last = h.last;
        is = ap (λ k. fault_or k (size - l) (Told lasting behind xs ls)) s.none ∙ (ap (λ z. Told lasting z xs ls) s.behind ∙ h.is);
        counted =
            λ le many.
            let met = counted_too (item_meets bound p x) s.none (s.counting (omega (arith, le)) (omega (arith, many))) in
            ap (λ k. fault_or k (size - l) (Told in_order behind xs ls)) met ∙ (ap (λ z. Told in_order z xs ls) s.behind ∙ h.counted (omega (arith, s.room, le)) (omega (arith, s.vars, many)));
        vars = h.vars;
        outputs = h.outputs;
        calls = h.calls;
        knows = h.knows;
      }

  as_counted : (p : Progress) (xs : List Item) (ls : List ℕ) (a b c d : ℕ) → a ≡ b → c ≡ d → Arrives p xs ls a c → Arrives p xs ls b d
  as_counted p xs ls a b c d e f h = subst (λ (n : ℕ). Arrives p xs ls n d) e (subst (λ (n : ℕ). Arrives p xs ls a n) f h)

  -- calls

  record CallsHeld (p : Progress) (cs : List Call) : Type 0 where
    pub vars : p.vars ≡ m.vars
    pub outputs : p.outputs ≡ m.outputs
    pub calls : map unplaced p.calls ++ map unplaced cs ≡ map unplaced m.calls
    pub knows : Knows names booleans p.names
    pub sound : AllByRecursion (IsCall booleans) cs

  one_more : (ds : List Call) (c : Call) (cs : List Call) (place : ℕ) → map unplaced (ds ++ placed_call c place ∷ []) ++ map unplaced cs ≡ map unplaced ds ++ map unplaced (c ∷ cs)
  one_more ds c cs place =
      ap (λ (xs : List Call). xs ++ map unplaced cs) (map-append unplaced ds (placed_call c place ∷ [])) ∙ append_assoc (map unplaced ds) (unplaced c ∷ []) (map unplaced cs)

  calls_walk : (cs : List Call) (p : Progress) (ls : List ℕ) → length ls ≡ length (map (call_item names) cs) → CallsHeld p cs → Arrives p (map (call_item names) cs) ls (sum_by leaves_of_call cs) 0
  calls_walk [] p ls e h = record { last = p; is = refl; counted = λ le many. refl; vars = h.vars; outputs = h.outputs; calls = sym (append-nil (map unplaced p.calls)) ∙ h.calls; knows = h.knows }
  calls_walk (c ∷ cs) p [] e h = absurd (omega (arith, e))
  calls_walk (c ∷ cs) p (l ∷ ls) e h =
      let q : Progress = with_call p (placed_call c (size - l)) (room_behind names p c) in
      let held : CallsHeld q cs = record { vars = h.vars; outputs = h.outputs; calls = one_more p.calls c cs (size - l) ∙ h.calls; knows = h.knows; sound = h.sound.1 } in
      as_counted p _ (l ∷ ls) _ _ _ _ (sym (sum_by-cons leaves_of_call c cs)) refl
      (turn p q (call_item names c) (map (call_item names) cs) l ls (leaves_of_call c) 0 (sum_by leaves_of_call cs) 0 (call_leaves bound names booleans p h.knows c h.sound.0 (size - l)) (calls_walk cs q ls (omega (arith, e)) held))

  -- output arrays

  record OutputsHeld (p : Progress) (os : List Output) : Type 0 where
    pub vars : p.vars ≡ m.vars
    pub outputs : m.outputs ≡ p.outputs ++ os
    pub calls : p.calls ≡ []
    pub knows : Knows names booleans p.names
    pub new : AreNew p.names (output_names os)
    pub differ : Differ (output_names os)
    pub sound : AllByRecursion (IsOutput booleans) os

  module _ (good : AllByRecursion (IsCall booleans) m.calls) where
    abbrev call_items : List Item
    call_items = map (call_item names) m.calls

    outputs_walk : (os : List Output) (p : Progress) (ls : List ℕ) → length ls ≡ length (map (output_item names) os ++ call_items) → OutputsHeld p os → Arrives p (map (output_item names) os ++ call_items) ls (sum_by output_members os + sum_by leaves_of_call m.calls) 0
    outputs_walk [] p ls e h =
        as_counted p call_items ls (sum_by leaves_of_call m.calls) (0 + sum_by leaves_of_call m.calls) 0 0 (omega arith) refl
        (calls_walk m.calls p ls e (record { vars = h.vars; outputs = sym (h.outputs ∙ append-nil p.outputs); calls = ap (λ cs. map unplaced cs ++ map unplaced m.calls) h.calls; knows = h.knows; sound = good }))
    outputs_walk (o ∷ os) p [] e h = absurd (omega (arith, e))
    outputs_walk (o ∷ os) p (l ∷ ls) e h =
        let a : Meaning = array_is names p o in
        let q : Progress = with_output (with_name p o.name a (array_leaves names p o)) o in
        let held : OutputsHeld q os = record {
          vars = h.vars;
          outputs = h.outputs ∙ sym (append_assoc p.outputs (o ∷ []) os);
          calls = h.calls;
          knows = knows_still names booleans p.names o.name a h.knows;
          new = new_more p.names o.name a (output_names os) (pairs_first (λ a b. a ≢ b) o.name (output_names os) h.differ) h.new.1;
          differ = pairs_rest (λ a b. a ≢ b) o.name (output_names os) h.differ;
          sound = h.sound.1;
        } in
        let calls : ℕ = sum_by leaves_of_call m.calls in
        let count : length o.members + (sum_by output_members os + calls) ≡ sum_by output_members (o ∷ os) + calls = omega (arith, sum_by-cons output_members o os) in
        as_counted p _ (l ∷ ls) _ _ _ _ count refl
        (turn p q (output_item names o) (map (output_item names) os ++ call_items) l ls (length o.members) 0 (sum_by output_members os + calls) 0 (output_leaves bound names booleans p h.knows o h.sound.0 h.new.0 (size - l)) (outputs_walk os q ls (omega (arith, e)) held))

    -- variables

    record VarsHeld (p : Progress) (vs : List FzVar) : Type 0 where
      pub vars : m.vars ≡ p.vars ++ vs
      pub outputs : p.outputs ≡ []
      pub calls : p.calls ≡ []
      pub knows : Knows names (booleans_of p.vars) p.names
      pub new : AreNew p.names (var_names vs ++ output_names m.outputs)
      pub differ : Differ (var_names vs ++ output_names m.outputs)
      pub sound : AreVars (booleans_of p.vars) vs

    here : (front : List FzVar) (v : FzVar) (back : List FzVar) → m.vars ≡ front ++ v ∷ back → name_at names (length (booleans_of front)) ≡ v.name
    here front v back e =
        let all : names ≡ var_names front ++ v.name ∷ var_names back = ap names_of e ∙ map-append (λ (w : FzVar). w.name) front (v ∷ back) in
        let long : length (booleans_of front) ≡ length (var_names front) = length_mapped (λ (w : FzVar). w.boolean) front ∙ sym (length_mapped (λ (w : FzVar). w.name) front) in
        ap (λ n. name_at names n) long ∙ (ap (λ ns. name_at ns (length (var_names front))) all ∙ name_here (var_names front) v.name (var_names back))

    booleans_more : (vs : List FzVar) (v : FzVar) → booleans_of (vs ++ v ∷ []) ≡ booleans_of vs ++ v.boolean ∷ []
    booleans_more vs v = map-append (λ (w : FzVar). w.boolean) vs (v ∷ [])

    known_behind : (p : Progress) (v : FzVar) (vs : List FzVar) → VarsHeld p (v ∷ vs) → Knows names (booleans_of (p.vars ++ v ∷ [])) (p.names ++ (v.name, var_is v.boolean (length p.vars)) ∷ [])
    known_behind p v vs h =
        let bs : List Truth = booleans_of p.vars in
        let w : name_at names (length bs) ≡ v.name = here p.vars v vs h.vars in
        let n : length bs ≡ length p.vars = length_mapped (λ (u : FzVar). u.boolean) p.vars in
        let more = knows_more names bs v.boolean p.names h.knows (subst (λ (x : List ℕ). look_up p.names x ≡ None) (sym w) h.new.0) in
        subst (λ (cs : List Truth). Knows names cs (p.names ++ (v.name, var_is v.boolean (length p.vars)) ∷ [])) (sym (booleans_more p.vars v))
        (subst (λ (k : ℕ). Knows names (bs ++ v.boolean ∷ []) (p.names ++ (v.name, var_is v.boolean k) ∷ [])) n
        (subst (λ (x : List ℕ). Knows names (bs ++ v.boolean ∷ []) (p.names ++ (x, var_is v.boolean (length bs)) ∷ [])) w more))

    abbrev later_items : List Item
    later_items = map (output_item names) m.outputs ++ call_items

    abbrev later_leaves : ℕ
    later_leaves = sum_by output_members m.outputs + sum_by leaves_of_call m.calls

    one_longer : (v : FzVar) (vs : List FzVar) → 1 + length vs ≡ length (v ∷ vs)
    one_longer v vs = omega arith

    module _ (outs : AllByRecursion (IsOutput booleans) m.outputs) where
      vars_walk : (vs : List FzVar) (p : Progress) (ls : List ℕ) → length ls ≡ length (map (var_item names) vs ++ later_items) → VarsHeld p vs → Arrives p (map (var_item names) vs ++ later_items) ls (sum_by var_members vs + later_leaves) (length vs)
      vars_walk [] p ls e h =
          let all : p.vars ≡ m.vars = sym (h.vars ∙ append-nil p.vars) in
          as_counted p later_items ls later_leaves (0 + later_leaves) 0 0 (omega arith) refl
          (outputs_walk m.outputs p ls e
          (record { vars = all; outputs = sym (ap (λ os. os ++ m.outputs) h.outputs); calls = h.calls; knows = subst (λ (vs : List FzVar). Knows names (booleans_of vs) p.names) all h.knows; new = h.new; differ = h.differ; sound = outs }))
      vars_walk (v ∷ vs) p [] e h = absurd (omega (arith, e))
      vars_walk (v ∷ vs) p (l ∷ ls) e h =
          let x : Meaning = var_is v.boolean (length p.vars) in
          let ws : List (List ℕ) = var_names vs ++ output_names m.outputs in
          let q : Progress = with_var (with_name p v.name x (type_leaves (type_of v.boolean v.domain))) v in
          let held : VarsHeld q vs = record {
            vars = h.vars ∙ sym (append_assoc p.vars (v ∷ []) vs);
            outputs = h.outputs;
            calls = h.calls;
            knows = known_behind p v vs h;
            new = new_more p.names v.name x ws (pairs_first (λ a b. a ≢ b) v.name ws h.differ) h.new.1;
            differ = pairs_rest (λ a b. a ≢ b) v.name ws h.differ;
            sound = subst (λ (bs : List Truth). AreVars bs vs) (sym (booleans_more p.vars v)) h.sound.1;
          } in
          let count : var_members v + (sum_by var_members vs + later_leaves) ≡ sum_by var_members (v ∷ vs) + later_leaves = omega (arith, sum_by-cons var_members v vs) in
          as_counted p _ (l ∷ ls) _ _ _ _ count (one_longer v vs)
          (turn p q (var_item names v) (map (var_item names) vs ++ later_items) l ls (var_members v) 1 (sum_by var_members vs + later_leaves) (length vs) (var_leaves bound names (booleans_of p.vars) p h.knows v h.sound.0 h.new.0 (size - l)) (vars_walk vs q ls (omega (arith, e)) held))

  -- the whole

  nothing_known : Knows names [] []
  nothing_known k t e = cc

  all_read : IsSound m → (ls : List ℕ) → length ls ≡ length (tree_of m).items → Arrives begun (tree_of m).items ls (leaves_of m) (length m.vars)
  all_read s ls e =
      vars_walk s.calls s.outputs m.vars begun ls e
      (record { vars = refl; outputs = refl; calls = refl; knows = nothing_known; new = none_known (var_names m.vars ++ output_names m.outputs); differ = s.distinct; sound = s.vars })

  same_behind : (a : Progress) → IsSound m → a.vars ≡ m.vars → a.outputs ≡ m.outputs → map unplaced a.calls ≡ map unplaced m.calls → Knows names booleans a.names → AreAlike m (model_of a (tree_of m).solve)
  same_behind a s vars outputs calls knows = record { vars = sym vars; outputs = sym outputs; calls = sym calls; goal = sym (goal_again names booleans a knows m.goal s.goal) }

  goal_told : (asked : List Condition) (r : Result Progress Fault) (a : Progress) (place : ℕ) → r ≡ Ok a → first_missed asked (solve_meets a (tree_of m).solve) ≡ None
      → ended asked r (tree_of m).solve place ≡ Ok (model_of a (tree_of m).solve)
  goal_told asked r a place is met = ap (λ z. ended asked z (tree_of m).solve place) is ∙ ap (λ k. fault_or k place (Ok (model_of a (tree_of m).solve))) met

  goal_counted : (a : Progress) → IsSound m → Knows names booleans a.names → first_missed in_order (solve_meets a (tree_of m).solve) ≡ None
  goal_counted a s knows = counted_too (solve_meets a (tree_of m).solve) (goal_met names booleans a knows m.goal s.goal) (goal_counting a (goal_of names m.goal))

-- the reading of what is written of a sound model
record Written (bound : Option ℤ) (m : Model) : Type 0 where
  pub reading : Reading
  pub items : AreItems (layout m) reading
  pub last : Progress
  pub meets : outcome lasting bound (length (layout m)) reading ≡ Ok (model_of last (tree_of m).solve)
  pub counted : IsWithinCounts m → outcome in_order bound (length (layout m)) reading ≡ Ok (model_of last (tree_of m).solve)
  pub alike : AreAlike m (model_of last (tree_of m).solve)

written : (bound : Option ℤ) (m : Model) → IsSound m → Written bound m
written bound m s =
    let text : List ℕ = layout m in
    let size : ℕ = length text in
    let t : HasTree text (tree_of m) = has_items m s in
    let r : Reading = t.reading in
    let place : ℕ = size - r.last in
    let long : length r.places ≡ length (tree_of m).items = as_many 0 r.syntax.items r.places (tokens_of text) t.placed.end t.placed.rest t.placed.items ∙ ap (λ (z : Syntax). length z.items) t.tree in
    let a = all_read bound m size s r.places long in
    let same : (asked : List Condition) → outcome asked bound size r ≡ ended asked (items_outcome asked bound size begun (tree_of m).items r.places) (tree_of m).solve place =
    λ asked. ap (λ (z : Syntax). ended asked (items_outcome asked bound size begun z.items r.places) z.solve place) t.tree in
    record {
      reading = r;
      items = record { model = subst (λ (z : Syntax). IsModel z (words (tokens_of text))) (sym t.tree) (reads_as_tree m s); placed = t.placed };
      last = a.last;
      meets = same lasting ∙ goal_told bound m size lasting (items_outcome lasting bound size begun (tree_of m).items r.places) a.last place a.is (goal_met (names_of m.vars) (booleans_of m.vars) a.last a.knows m.goal s.goal);
      counted =
          λ within.
          same in_order
          ∙ goal_told bound m size in_order (items_outcome in_order bound size begun (tree_of m).items r.places) a.last place (a.counted within.leaves (omega (arith, within.variables))) (goal_counted bound m size a.last s a.knows);
      alike = same_behind bound m size a.last s a.vars a.outputs a.calls a.knows;
    }

pub written_again : WrittenAgain
written_again m s = let w = written None m s in record { reading = w.reading; stated = model_of w.last (tree_of m).solve; items = w.items; meets = w.meets; alike = w.alike }

pub read_again : ReadAgain
read_again bound m s within =
    let w = written bound m s in
    record { stated = model_of w.last (tree_of m).solve; spells = record { reading = w.reading; items = w.items; low = low_layout m s; meets = w.counted within }; alike = w.alike }
