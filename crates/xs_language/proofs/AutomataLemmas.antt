-- What is written of an automaton denotes it again, and misses nothing.
use Rattle.std.proofs.Common.{◌≡◌, ℕ, ◌+◌, ◌*◌, ◌≤◌, Bool, true, nat_lt, if◌then◌else◌, List, [], ◌∷◌, ◌++◌, length, map, None, Some, Ok, Err, refl, ap, sym, ◌∙◌, subst, arith, append-nil}
use Rattle.std.specs.Prelude.{is_some}
use Rattle.std.specs.Fmt.{signed_decimal}
use Rattle.std.specs.List.{AllByRecursion, flat_map}
use Rattle.std.specs.Option.{option_map}
use Rattle.std.proofs.lemmas.List.{length-map}
use borrow.Author.Tests.{lt-ltb}
use Rattle.xs_automata.specs.Ends.{has_ends, leaf_of, root_of, told}
use Rattle.xs_automata.specs.Mdd.{diagram_meets}
use Rattle.xs_automata.specs.Numbers.{edges_from, number_of, numbers_from, with_name, with_steps}
use Rattle.xs_automata.specs.Regular.{automaton_meets}
use Rattle.xs_automata.specs.Transitions.{Step, is_small_step, first_word, is_state, named, state_meets, state_of, states_meet, states_of, step_in, step_list, step_meets, step_of, steps_in, steps_of, transitions_meet}
use Rattle.xs_automata.proofs.EndLemmas.{only_leaf, only_root}
use Rattle.xs_automata.proofs.FormedLemmas.{edge_counts, mark_counts}
use Rattle.xs_expr.specs.Text.{joined_from}
use Rattle.xs_fields.specs.Conditions.{all_meet, judged, meets}
use Rattle.xs_fields.specs.Identifiers.{identifier_meets, is_identifier}
use Rattle.xs_fields.specs.Integers.{integer_of}
use Rattle.xs_fields.specs.Words.{words_of}
use Rattle.xs_fields.specs.declared.condition.Condition.{Condition}
use Rattle.xs_fields.specs.declared.condition.Condition.TheVariants.{Known, Nesting, Spelling, Magnitude, Naming, Counting, Fitting}
use Rattle.xs_fields.proofs.FirstLemmas.{all_met}
use Rattle.xs_forms.specs.Room.{states_of as states_in}
use Rattle.xs_language.proofs.Texts.{AreReadAgain}
use Rattle.xs_language.specs.Written.{edge_text, list_text, state_text, states_text, transitions_text}
use Rattle.xs_language.proofs.CutLemmas.{AreEntries, IsWord, between_commas, both, joined_close, lacks_space, next_behind, next_groups, spaced_words}
use Rattle.xs_language.proofs.NumberedLemmas.{AreNumbers, IsNumber, edges_back, named_step, names_to, numbered, state_bytes, state_identifier, states_back}
use Rattle.xs_language.proofs.WrittenLemmas.{count_true, fitted, integer_word, list_back, list_met, read_integer, right, small_is, spelt_true}
use Rattle.xs_model.specs.Accepted.{IsFormed}
use Rattle.xs_model.specs.Fields.{Variable, edge_items}
use Rattle.xs_model.specs.Fitting.{AreNumberedFrom, ends_of}
use Rattle.xs_model.specs.Formed.{IsFormedItem}
use Rattle.xs_model.specs.Names.{words}
use Rattle.xs_model.specs.Outline.{outlines_of}
use Rattle.xs_model.specs.Sound.{IsSmall}
use Rattle.xs_model.specs.declared.decl.Decl.{Decl}
use Rattle.xs_model.specs.declared.instance.Constraint.TheVariants.{Mdd, Regular}
use Rattle.xs_model.specs.declared.instance.Edge.{Edge}
use Rattle.xs_model.proofs.FormLemmas.{below_of_items}
use Rattle.xs_notation.specs.Law.{AreDeclared}
use Rattle.xs_tables.specs.Groups.{behind_of, groups_of, is_blank, spelt_meets}
use Rattle.xs_tables.specs.Tables.{sizes_meet}

-- a transition between numbers, with a small value
pub record IsEdge (e : Edge) : Type 0 where
  pub from : IsNumber e.from
  pub value : IsSmall e.value
  pub to : IsNumber e.to

abbrev AreEdges : List Edge → Type 0
AreEdges es = AllByRecursion IsEdge es

abbrev entries_of : Edge → List (List ℕ)
entries_of e = state_text e.from ∷ signed_decimal e.value ∷ state_text e.to ∷ []

abbrev inside : Edge → List ℕ
inside e = joined_from [] (entries_of e)

are_entries : (e : Edge) → IsEdge e → AreEntries (entries_of e)
are_entries e h = (state_bytes e.from h.from, (integer_word e.value h.value, (state_bytes e.to h.to, tt)))

-- one transition
step_back : (e : Edge) → IsEdge e → step_of (32 ∷ 40 ∷ inside e) ≡ Some (named_step e)
step_back e h =
    ap step_in (between_commas (entries_of e) (omega arith) (are_entries e h))
    ∙ ap (λ (b : Bool). option_map (λ z. record { from = state_text e.from; value = z; to = state_text e.to }) (if b then integer_of (signed_decimal e.value) else None))
    (both (is_identifier (state_text e.from)) (is_identifier (state_text e.to)) (state_identifier e.from h.from) (state_identifier e.to h.to))
    ∙ ap (option_map (λ z. record { from = state_text e.from; value = z; to = state_text e.to })) (read_integer e.value h.value)

step_met : (e : Edge) → IsEdge e → (k : Condition) → step_meets (32 ∷ 40 ∷ inside e) k ≡ true
step_met e h k = ap (λ o. meets is_small_step o k) (step_back e h) ∙ right is_small_step (named_step e) (small_is e.value h.value) k

step_read : (e : Edge) → IsEdge e → steps_in (32 ∷ 40 ∷ inside e) ≡ named_step e ∷ []
step_read e h = ap (λ o. step_list (judged is_small_step o)) (step_back e h) ∙ ap (λ (v : Bool). step_list (if v then Ok (named_step e) else Err Magnitude)) (small_is e.value h.value)

-- all transitions
steps_back : (es : List Edge) → AreEdges es → steps_of (transitions_text es) ≡ map named_step es
steps_back [] h = refl
steps_back (e ∷ es) h =
    ap (flat_map steps_in) (next_groups (inside e) (map edge_text es) (joined_close (entries_of e) (are_entries e h.0)))
    ∙ ap (λ ss. ss ++ steps_of (transitions_text es)) (step_read e h.0) ∙ ap (λ ss. named_step e ∷ ss) (steps_back es h.1)

groups_met : (es : List Edge) → AreEdges es → (k : Condition) → all_meet step_meets (groups_of (transitions_text es)) k ≡ true
groups_met [] h k = refl
groups_met (e ∷ es) h k =
    ap (λ gs. all_meet step_meets gs k) (next_groups (inside e) (map edge_text es) (joined_close (entries_of e) (are_entries e h.0))) ∙ both _ _ (step_met e h.0 k) (groups_met es h.1 k)

last_blank : (es : List Edge) → AreEdges es → behind_of (transitions_text es) ≡ 32 ∷ []
last_blank [] h = refl
last_blank (e ∷ es) h = next_behind (inside e) (map edge_text es) (joined_close (entries_of e) (are_entries e h.0)) ∙ last_blank es h.1

steps_many : (es : List Edge) → AreEdges es → length (steps_of (transitions_text es)) ≡ length es
steps_many es h = ap length (steps_back es h) ∙ length-map es named_step

transitions_met : (es : List Edge) → AreEdges es → (left : ℕ) → length es ≤ left → (k : Condition) → transitions_meet (transitions_text es) left k ≡ true
transitions_met es h left few k =
    both _ _ (both _ _ (groups_met es h k) (count_true (length (steps_of (transitions_text es))) left (omega (arith, steps_many es h, few)) k))
    (ap (λ b. spelt_meets (is_blank b) k) (last_blank es h) ∙ spelt_true k)

-- states
state_word : (q : ℕ) → IsNumber q → IsWord (state_text q)
state_word q h = record { some = omega arith; plain = lacks_space (state_text q) (state_bytes q h) }

state_words : (qs : List ℕ) → AreNumbers qs → AllByRecursion IsWord (map state_text qs)
state_words [] h = tt
state_words (q ∷ qs) h = (state_word q h.0, state_words qs h.1)

words_are : (qs : List ℕ) → AreNumbers qs → words_of (states_text qs) ≡ map state_text qs
words_are qs h = spaced_words (map state_text qs) (state_words qs h)

each_named : (ws : List (List ℕ)) → flat_map named ws ≡ ws
each_named [] = refl
each_named (w ∷ ws) = ap (λ us. w ∷ us) (each_named ws)

names_back : (qs : List ℕ) → AreNumbers qs → states_of (states_text qs) ≡ map state_text qs
names_back qs h = each_named (words_of (states_text qs)) ∙ words_are qs h

identifier_true : (w : List ℕ) → is_identifier w ≡ true → (k : Condition) → identifier_meets w k ≡ true
identifier_true w h Known = refl
identifier_true w h Nesting = refl
identifier_true w h Spelling = h
identifier_true w h Magnitude = refl
identifier_true w h Naming = refl
identifier_true w h Counting = refl
identifier_true w h Fitting = refl

identifiers_met : (qs : List ℕ) → AreNumbers qs → (k : Condition) → all_meet identifier_meets (map state_text qs) k ≡ true
identifiers_met [] h k = refl
identifiers_met (q ∷ qs) h k = both _ _ (identifier_true (state_text q) (state_identifier q h.0) k) (identifiers_met qs h.1 k)

states_met : (qs : List ℕ) → AreNumbers qs → (left : ℕ) → length qs ≤ left → (k : Condition) → states_meet (states_text qs) left k ≡ true
states_met qs h left few k =
    both _ _ (ap (λ ws. all_meet identifier_meets ws k) (words_are qs h) ∙ identifiers_met qs h k)
    (count_true (length (states_of (states_text qs))) left (omega (arith, ap length (names_back qs h), length-map qs state_text, few)) k)

one_state : (q : ℕ) → IsNumber q → words_of (states_text (q ∷ [])) ≡ state_text q ∷ []
one_state q h = words_are (q ∷ []) (h, tt)

start_met : (q : ℕ) → IsNumber q → (k : Condition) → state_meets (states_text (q ∷ [])) k ≡ true
start_met q h k =
    ap (λ ws. spelt_meets (is_state ws) k) (one_state q h) ∙ ap (λ b. spelt_meets b k) (state_identifier q h) ∙ spelt_true k

start_back : (q : ℕ) → IsNumber q → state_of (states_text (q ∷ [])) ≡ state_text q
start_back q h = ap first_word (one_state q h)

-- what the shape of the form says
edge_values : (n : ℕ) (es : List Edge) → AllByRecursion (IsFormedItem n) (flat_map edge_items es) → AllByRecursion (λ e. IsSmall e.value) es
edge_values n [] h = tt
edge_values n (e ∷ es) h = (h.1.0, edge_values n es h.1.1.1)

are_edges : (es : List Edge) (more : List ℕ) → AllByRecursion (λ e. IsSmall e.value) es → AreNumbers (ends_of es ++ more) → AreEdges es × AreNumbers more
are_edges [] more h g = (tt, g)
are_edges (e ∷ es) more h g = let rest = are_edges es more h.1 g.1.1 in ((record { from = g.0; value = h.0; to = g.1.0 }, rest.0), rest.1)

front_numbers : (xs ys : List ℕ) → AreNumbers (xs ++ ys) → AreNumbers (xs ++ [])
front_numbers [] ys h = tt
front_numbers (x ∷ xs) ys h = (h.0, front_numbers xs ys h.1)

module _ (ds : List Decl) (d : AreDeclared ds) where
  -- an automaton
  pub regular_again : (vs : List ℕ) (es : List Edge) (start : ℕ) (qs : List ℕ) → IsFormed (length (words ds)) (Regular vs es start qs) → AreNumbers (states_in (Regular vs es start qs)) → AreReadAgain ds (Regular vs es start qs)
  regular_again vs es start qs h numbers =
      let os = outlines_of ds in
      let below = below_of_items (length (words ds)) vs h.fields.0 in
      let are = are_edges es (start ∷ qs) (edge_values (length (words ds)) es h.fields.1.0) numbers in
      let back = edges_back 0 es (start ∷ qs) (omega arith) numbers h.fitting.1 in
      let first = numbered back.after start qs back.few are.1.0 back.rest in
      let last = states_back first.after qs first.few are.1.1 first.rest in
      let list = list_text (words ds) vs in
      let transitions = transitions_text es in
      let begin = states_text (start ∷ []) in
      let finals = states_text qs in
      record {
        meets = λ left few.
            let many : length vs + (3 * length es + (1 + length qs)) ≤ left = omega (arith, few, length-map vs Variable, edge_counts es, mark_counts qs) in
            all_met (automaton_meets os left list transitions begin finals)
            (λ k.
            both _ _ (both _ _ (list_met ds d vs below left (omega (arith, many)) k) (both _ _ (transitions_met es are.0 left (omega (arith, many)) k) (both _ _ (start_met start are.1.0 k) (states_met qs are.1.1 left (omega (arith, many)) k))))
            (ap (λ (us : List ℕ). sizes_meet (length us + (3 * length (steps_of transitions) + (1 + length (states_of finals)))) left (nat_lt 0 (length us)) k) (list_back ds d vs below)
            ∙ ap (λ (n : ℕ). sizes_meet (length vs + (3 * n + (1 + length (states_of finals)))) left (nat_lt 0 (length vs)) k) (steps_many es are.0)
            ∙ ap (λ (n : ℕ). sizes_meet (length vs + (3 * length es + (1 + n))) left (nat_lt 0 (length vs)) k) (ap length (names_back qs are.1.1) ∙ length-map qs state_text)
            ∙ both _ _ (count_true (length vs + (3 * length es + (1 + length qs))) left many k) (fitted ds d (nat_lt 0 (length vs)) (lt-ltb 0 (length vs) h.fitting.0) k)));
        same =
            ap (λ (us : List ℕ). Regular us (edges_from [] (steps_of transitions)) (number_of (with_steps [] (steps_of transitions)) (state_of begin)) (numbers_from (with_name (with_steps [] (steps_of transitions)) (state_of begin)) (states_of finals))) (list_back ds d vs below)
            ∙ ap (λ (ss : List Step). Regular vs (edges_from [] ss) (number_of (with_steps [] ss) (state_of begin)) (numbers_from (with_name (with_steps [] ss) (state_of begin)) (states_of finals))) (steps_back es are.0)
            ∙ ap (λ (xs : List Edge). Regular vs xs (number_of (with_steps [] (map named_step es)) (state_of begin)) (numbers_from (with_name (with_steps [] (map named_step es)) (state_of begin)) (states_of finals))) back.same
            ∙ ap (λ (ks : List (List ℕ)). Regular vs es (number_of ks (state_of begin)) (numbers_from (with_name ks (state_of begin)) (states_of finals))) back.grows
            ∙ ap (λ (w : List ℕ). Regular vs es (number_of (names_to back.after) w) (numbers_from (with_name (names_to back.after) w) (states_of finals))) (start_back start are.1.0)
            ∙ ap (λ (q : ℕ). Regular vs es q (numbers_from (with_name (names_to back.after) (state_text start)) (states_of finals))) first.number
            ∙ ap (λ (ks : List (List ℕ)). Regular vs es start (numbers_from ks (states_of finals))) first.grows
            ∙ ap (λ (ws : List (List ℕ)). Regular vs es start (numbers_from (names_to first.after) ws)) (names_back qs are.1.1)
            ∙ ap (λ (ns : List ℕ). Regular vs es start ns) last;
      }

  -- a diagram
  pub mdd_again : (vs : List ℕ) (es : List Edge) (root leaf : ℕ) → IsFormed (length (words ds)) (Mdd vs es root leaf) → AreNumbers (states_in (Mdd vs es root leaf)) → AreReadAgain ds (Mdd vs es root leaf)
  mdd_again vs es root leaf h numbers =
      let os = outlines_of ds in
      let below = below_of_items (length (words ds)) vs h.fields.0 in
      let are = are_edges es (root ∷ leaf ∷ []) (edge_values (length (words ds)) es h.fields.1.0) numbers in
      let back = edges_back 0 es [] (omega arith) (front_numbers (ends_of es) (root ∷ leaf ∷ []) numbers) (subst (AreNumberedFrom 0) (sym (append-nil (ends_of es))) h.fitting.0) in
      let list = list_text (words ds) vs in
      let transitions = transitions_text es in
      let edges : edges_from [] (steps_of transitions) ≡ es = ap (edges_from []) (steps_back es are.0) ∙ back.same in
      let top : root_of es ≡ Some root = only_root es root h.fitting.1 in
      let bottom : leaf_of es ≡ Some leaf = only_leaf es leaf h.fitting.2 in
      let ends : has_ends es ≡ true = both (is_some (root_of es)) (is_some (leaf_of es)) (ap is_some top) (ap is_some bottom) in
      record {
        meets = λ left few.
            let many : length vs + 3 * length es ≤ left = omega (arith, few, length-map vs Variable, edge_counts es) in
            all_met (diagram_meets os left list transitions)
            (λ k.
            both _ _ (both _ _ (list_met ds d vs below left (omega (arith, many)) k) (transitions_met es are.0 left (omega (arith, many)) k))
            (ap (λ (us : List ℕ). sizes_meet (length us + 3 * length (steps_of transitions)) left (has_ends (edges_from [] (steps_of transitions))) k) (list_back ds d vs below)
            ∙ ap (λ (n : ℕ). sizes_meet (length vs + 3 * n) left (has_ends (edges_from [] (steps_of transitions))) k) (steps_many es are.0)
            ∙ ap (λ (xs : List Edge). sizes_meet (length vs + 3 * length es) left (has_ends xs) k) edges
            ∙ both _ _ (count_true (length vs + 3 * length es) left many k) (fitted ds d (has_ends es) ends k)));
        same =
            ap (λ (us : List ℕ). Mdd us (edges_from [] (steps_of transitions)) (told (root_of (edges_from [] (steps_of transitions)))) (told (leaf_of (edges_from [] (steps_of transitions))))) (list_back ds d vs below)
            ∙ ap (λ (xs : List Edge). Mdd vs xs (told (root_of xs)) (told (leaf_of xs))) edges
            ∙ ap (λ o. Mdd vs es (told o) (told (leaf_of es))) top ∙ ap (λ o. Mdd vs es root (told o)) bottom;
      }
