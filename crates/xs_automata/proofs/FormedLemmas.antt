-- What a `regular` and an `mdd` denote that miss nothing: they are of the shape of their form, over declared variables, and have
-- no more items than are left.
use Rattle.std.proofs.Common.{◌≡◌, ℕ, ◌+◌, ◌*◌, ◌<◌, ◌≤◌, nat_abs, Bool, true, false, ◌&&◌, nat_lt, if◌then◌else◌, List, [], ◌∷◌, length, map, codes, Option, None, Some, Ok, Err, refl, subst, arith, append-nil}
use Rattle.std.specs.Prelude.{is_some}
use Rattle.std.specs.List.{AllByRecursion, flat_map}
use Rattle.std.proofs.lemmas.List.{length-map}
use borrow.Author.Tests.{leb-true, ltb-true}
use Rattle.xs_automata.specs.Ends.{has_ends, leaf_of, root_of, told}
use Rattle.xs_automata.specs.Mdd.{both_denote, both_in, both_meet, diagram_meets, diagram_of, mdd_meets, mdd_of}
use Rattle.xs_automata.specs.Numbers.{edges_from, number_of, numbers_from, with_name, with_step, with_steps}
use Rattle.xs_automata.specs.Regular.{are_parts, automaton_meets, automaton_of, items_in, regular_meets, regular_of, text_of}
use Rattle.xs_automata.specs.Transitions.{Step, is_small_step, state_meets, state_of, states_meet, states_of, step_list, step_of, steps_in, steps_of, transitions_meet}
use Rattle.xs_automata.proofs.EndLemmas.{leaf_only, root_only}
use Rattle.xs_automata.proofs.NumberLemmas.{edges_many, numbered_one, numbered_states, numbered_steps, numbers_many}
use Rattle.xs_fields.specs.Cells.{vars_meet, vars_of}
use Rattle.xs_fields.specs.Conditions.{first_missed, judged}
use Rattle.xs_fields.specs.Integers.{is_small, magnitudes}
use Rattle.xs_fields.specs.Lists.{count_meets}
use Rattle.xs_fields.specs.declared.condition.Condition.TheVariants.{Counting, Fitting, Magnitude}
use Rattle.xs_fields.proofs.FirstLemmas.{met_at}
use Rattle.xs_fields.proofs.IntegerLemmas.{and_left, and_right}
use Rattle.xs_model.proofs.FormLemmas.{items_of_below}
use Rattle.xs_model.specs.Fields.{Mark, Variable, edge_items}
use Rattle.xs_model.specs.Fitting.{AreNumberedFrom, ends_of}
use Rattle.xs_model.specs.Formed.{IsFormedItem}
use Rattle.xs_model.specs.Outline.{Outline, variables_in}
use Rattle.xs_model.specs.Sound.{IsSmall}
use Rattle.xs_model.specs.declared.concrete.Concrete.{Concrete}
use Rattle.xs_model.specs.declared.instance.Edge.{Edge}
use Rattle.xs_tables.specs.Groups.{groups_of, spelt_meets}
use Rattle.xs_tables.proofs.BelowLemmas.{vars_below}
use Rattle.xs_tables.proofs.FormedLemmas.{IsGood, all_append}

abbrev AreSmall : List Step → Type 0
AreSmall ss = AllByRecursion (λ s. IsSmall s.value) ss

step_small : (o : Option Step) → AreSmall (step_list (judged is_small_step o))
step_small None = tt
step_small (Some s) = by (is_small s.value) refl
  where
    by : (v : Bool) → is_small s.value ≡ v → AreSmall (step_list (if v then Ok s else Err Magnitude))
    by true e = (leb-true (nat_abs s.value) magnitudes e, tt)
    by false e = tt

steps_small : (gs : List (List ℕ)) → AreSmall (flat_map steps_in gs)
steps_small [] = tt
steps_small (g ∷ gs) = all_append (λ s. IsSmall s.value) (steps_in g) (flat_map steps_in gs) (step_small (step_of g)) (steps_small gs)

edges_formed : (n : ℕ) (known : List (List ℕ)) (ss : List Step) → AreSmall ss → AllByRecursion (IsFormedItem n) (flat_map edge_items (edges_from known ss))
edges_formed n known [] h = tt
edges_formed n known (s ∷ ss) h = (tt, (h.0, (tt, edges_formed n (with_step known s) ss h.1)))

marks : (n : ℕ) (qs : List ℕ) → AllByRecursion (IsFormedItem n) (map (λ q. Mark) qs)
marks n [] = tt
marks n (q ∷ qs) = (tt, marks n qs)

pub edge_counts : (es : List Edge) → length (flat_map edge_items es) ≡ 3 * length es
edge_counts [] = refl
edge_counts (e ∷ es) = omega (arith, edge_counts es)

pub mark_counts : (qs : List ℕ) → length (map (λ q. Mark) qs) ≡ length qs
mark_counts [] = refl
mark_counts (q ∷ qs) = omega (arith, mark_counts qs)

told_some : (o : Option ℕ) → is_some o ≡ true → o ≡ Some (told o)
told_some None h = cc
told_some (Some q) h = refl

module _ (os : List Outline) (left : ℕ) (list transitions : List ℕ) where
  pub automaton_good : (start final : List ℕ) → first_missed (automaton_meets os left list transitions start final) ≡ None → IsGood os left (automaton_of os list transitions start final)
  automaton_good start final h =
      let n = variables_in os in
      let vs = vars_of os list in
      let ss = steps_of transitions in
      let known = with_steps [] ss in
      let name = state_of start in
      let met = met_at (automaton_meets os left list transitions start final) h in
      let few : length vs + (3 * length ss + (1 + length (states_of final))) ≤ left = leb-true _ _ (and_left _ _ (and_right _ _ (met Counting))) in
      let some : 0 < length vs =
      ltb-true _ _ (and_right (count_meets (items_in os list transitions final) left Fitting) (nat_lt 0 (length vs)) (and_right (vars_meet os list left Fitting && (transitions_meet transitions left Fitting && (state_meets start Fitting && states_meet final left Fitting))) (count_meets (items_in os list transitions final) left Fitting && nat_lt 0 (length vs)) (met Fitting))) in
      let numbers = numbers_from (with_name known name) (states_of final) in (
        record {
          fields = (items_of_below n vs (vars_below os list), (edges_formed n [] ss (steps_small (groups_of transitions)), ((tt, tt), (marks n numbers, tt))));
          fitting = (some, numbered_steps [] ss (number_of known name ∷ numbers) (numbered_one known name numbers (numbered_states (with_name known name) (states_of final))));
        },
        omega (arith, few, length-map vs Variable, edge_counts (edges_from [] ss), edges_many [] ss, mark_counts numbers, numbers_many (with_name known name) (states_of final)),
      )

  pub diagram_good : first_missed (diagram_meets os left list transitions) ≡ None → IsGood os left (diagram_of os list transitions)
  diagram_good h =
      let n = variables_in os in
      let vs = vars_of os list in
      let ss = steps_of transitions in
      let es = edges_from [] ss in
      let met = met_at (diagram_meets os left list transitions) h in
      let few : length vs + 3 * length ss ≤ left = leb-true _ _ (and_left _ _ (and_right _ _ (met Counting))) in
      let ends : has_ends es ≡ true =
      and_right (count_meets (length vs + 3 * length ss) left Fitting) (has_ends es) (and_right (vars_meet os list left Fitting && transitions_meet transitions left Fitting) (count_meets (length vs + 3 * length ss) left Fitting && has_ends es) (met Fitting)) in (
        record {
          fields = (items_of_below n vs (vars_below os list), (edges_formed n [] ss (steps_small (groups_of transitions)), tt));
          fitting = (
            subst (AreNumberedFrom 0) (append-nil (ends_of es)) (numbered_steps [] ss [] tt),
            root_only es (told (root_of es)) (told_some (root_of es) (and_left (is_some (root_of es)) (is_some (leaf_of es)) ends)),
            leaf_only es (told (leaf_of es)) (told_some (leaf_of es) (and_right (is_some (root_of es)) (is_some (leaf_of es)) ends)),
          );
        },
        omega (arith, few, length-map vs Variable, edge_counts es, edges_many [] ss),
      )

pub regular_good : (os : List Outline) (left : ℕ) (c : Concrete) → first_missed (regular_meets os left c) ≡ None → IsGood os left (regular_of os c)
regular_good os left c h = by (are_parts c.parts) h
  where
    by : (v : Bool) → first_missed (λ k. if v then automaton_meets os left (text_of (codes "list") c.parts) (text_of (codes "transitions") c.parts) (text_of (codes "start") c.parts) (text_of (codes "final") c.parts) k else spelt_meets false k) ≡ None → IsGood os left (regular_of os c)
    by true g = automaton_good os left (text_of (codes "list") c.parts) (text_of (codes "transitions") c.parts) (text_of (codes "start") c.parts) (text_of (codes "final") c.parts) g
    by false g = cc

both_good : (os : List Outline) (left : ℕ) (o : Option (List ℕ × List ℕ)) → first_missed (both_meet os left o) ≡ None → IsGood os left (both_denote os o)
both_good os left None h = cc
both_good os left (Some t) h = diagram_good os left t.0 t.1 h

pub mdd_good : (os : List Outline) (left : ℕ) (c : Concrete) → first_missed (mdd_meets os left c) ≡ None → IsGood os left (mdd_of os c)
mdd_good os left c h = both_good os left (both_in c.parts) h
