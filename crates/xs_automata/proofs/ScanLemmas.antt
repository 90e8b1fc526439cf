-- Transitions and states that are read one after the other, and numbered.
use Rattle.std.proofs.Common.{◌≡◌, ℕ, ℤ, ◌&&◌, Bool, true, false, ◌++◌, List, [], ◌∷◌, length, Option, None, Some, Ok, Err, refl, ap, sym, ◌∙◌, if◌then◌else◌}
use Rattle.std.specs.Option.{option_map}
use Rattle.std.specs.Result.{result_err}
use Rattle.xs_automata.specs.Numbers.{edges_from, number_of, numbers_from, with_name, with_steps}
use Rattle.xs_automata.specs.Transitions.{Step, is_small_step, named, spelt_value, states_of, step_by, step_in, step_list, step_meets, step_of, steps_in, steps_of}
use Rattle.xs_automata.proofs.NumberLemmas.{edges_many, edges_more, names_more, numbers_many, numbers_more, steps_more, with_names}
use Rattle.xs_fields.specs.Conditions.{all_meet, earlier_of, first_missed, judged, meets}
use Rattle.xs_fields.specs.Identifiers.{identifier_meets}
use Rattle.xs_fields.specs.Integers.{is_small}
use Rattle.xs_fields.specs.Lists.{count_meets}
use Rattle.xs_fields.specs.Scanning.{joined}
use Rattle.xs_fields.specs.Words.{is_byte, parts, words_of}
use Rattle.xs_fields.specs.declared.condition.Condition.{Condition}
use Rattle.xs_fields.specs.declared.condition.Condition.TheVariants.{Fitting, Magnitude, Spelling}
use Rattle.xs_fields.proofs.OrderLemmas.{judged_missed}
use Rattle.xs_fields.proofs.PartLemmas.{parts_front}
use Rattle.xs_fields.proofs.ScanLemmas.{Stands, begins, ends_missed, ends_value}
use Rattle.xs_model.specs.declared.instance.Edge.{Edge}
use Rattle.xs_tables.specs.Groups.{groups_of, is_room_for}
use Rattle.xs_tables.proofs.ScanLemmas.{counted, still_none}

meets_fitting : {A : Type 0} (small : A → Bool) (o : Option A) → meets small o Fitting ≡ true
meets_fitting small None = refl
meets_fitting small (Some x) = refl

pub step_fits : (g : List ℕ) → step_meets g Fitting ≡ true
step_fits g = meets_fitting is_small_step (step_of g)

pub identifier_fits : (w : List ℕ) → identifier_meets w Fitting ≡ true
identifier_fits w = refl

-- more than three parts are no transition
pub not_step : (p v q bytes : List ℕ) → step_in (p ∷ v ∷ q ∷ parts (is_byte 44) bytes) ≡ None
not_step p v q bytes = ap (λ ps. step_in (p ∷ v ∷ q ∷ ps)) (parts_front (is_byte 44) bytes)

-- where the reading of transitions stands
pub record IsRead (first : List (List ℕ)) (text : List ℕ) (left : ℕ) (missed : Option Condition) (edges : List Edge) (known rest : List (List ℕ)) : Type 0 where
  pub steps : List Step
  pub stands : Stands steps_in step_meets left (groups_of text) missed steps rest
  pub edges_are : missed ≡ None → edges ≡ edges_from first steps
  pub known_are : missed ≡ None → known ≡ with_steps first steps

pub reading_begins : (first : List (List ℕ)) (text : List ℕ) (left : ℕ) (edges : List Edge) → edges ≡ [] → IsRead first text left None edges first (groups_of text)
reading_begins first text left edges none = record { steps = []; stands = begins steps_in step_meets left (groups_of text); edges_are = λ e. none; known_are = λ e. refl }

module _ (first : List (List ℕ)) (text : List ℕ) (left : ℕ) where
  pub step_taken : (missed m : Option Condition) (edges new : List Edge) (known after rest more : List (List ℕ)) (group : List ℕ) → rest ≡ group ∷ more
      → m ≡ joined missed (first_missed (step_meets group)) (is_room_for left (length edges) (length (steps_in group)))
      → (m ≡ None → new ≡ edges ++ edges_from known (steps_in group)) → (m ≡ None → after ≡ with_steps known (steps_in group))
      → IsRead first text left missed edges known rest → IsRead first text left m new after more
  step_taken missed m edges new known after rest more group cut told value grown s =
      let ss = steps_in group in
      let before = λ (e : m ≡ None). still_none missed (first_missed (step_meets group)) m (is_room_for left (length edges) (length ss)) told e in
      record {
        steps = s.steps ++ ss;
        stands =
            counted steps_in step_meets left (groups_of text) step_fits missed (first_missed (step_meets group)) m (length edges) s.steps ss (s.steps ++ ss) group more rest cut refl refl
            (λ e. ap length (s.edges_are e) ∙ edges_many first s.steps) told (λ e. refl) s.stands;
        edges_are = λ e.
            value e ∙ ap (λ xs. xs ++ edges_from known ss) (s.edges_are (before e)) ∙ ap (λ ks. edges_from first s.steps ++ edges_from ks ss) (s.known_are (before e))
            ∙ sym (edges_more first s.steps ss);
        known_are = λ e. grown e ∙ ap (λ ks. with_steps ks ss) (s.known_are (before e)) ∙ sym (steps_more first s.steps ss);
      }

  module _ (missed : Option Condition) (edges : List Edge) (known rest : List (List ℕ)) (none : rest ≡ []) (s : IsRead first text left missed edges known rest) where
    pub read_missed : missed ≡ first_missed (λ k. all_meet step_meets (groups_of text) k && count_meets (length (steps_of text)) left k)
    read_missed = ends_missed steps_in step_meets left (groups_of text) missed s.steps rest none s.stands

    pub read_edges : missed ≡ None → edges ≡ edges_from first (steps_of text)
    read_edges e = s.edges_are e ∙ ap (edges_from first) (ends_value steps_in step_meets left (groups_of text) missed s.steps rest none s.stands e)

    pub read_known : missed ≡ None → known ≡ with_steps first (steps_of text)
    read_known e = s.known_are e ∙ ap (with_steps first) (ends_value steps_in step_meets left (groups_of text) missed s.steps rest none s.stands e)

-- where the reading of states stands
pub record IsListed (first : List (List ℕ)) (text : List ℕ) (left : ℕ) (missed : Option Condition) (numbers : List ℕ) (known rest : List (List ℕ)) : Type 0 where
  pub names : List (List ℕ)
  pub stands : Stands named identifier_meets left (words_of text) missed names rest
  pub numbers_are : missed ≡ None → numbers ≡ numbers_from first names
  pub known_are : missed ≡ None → known ≡ with_names first names

pub listing_begins : (first : List (List ℕ)) (text : List ℕ) (left : ℕ) (numbers : List ℕ) → numbers ≡ [] → IsListed first text left None numbers first (words_of text)
listing_begins first text left numbers none = record { names = []; stands = begins named identifier_meets left (words_of text); numbers_are = λ e. none; known_are = λ e. refl }

module _ (first : List (List ℕ)) (text : List ℕ) (left : ℕ) where
  pub state_taken : (missed m : Option Condition) (numbers new : List ℕ) (known after rest more : List (List ℕ)) (name : List ℕ) → rest ≡ name ∷ more
      → m ≡ joined missed (first_missed (identifier_meets name)) (is_room_for left (length numbers) 1)
      → (m ≡ None → new ≡ numbers ++ number_of known name ∷ []) → (m ≡ None → after ≡ with_name known name)
      → IsListed first text left missed numbers known rest → IsListed first text left m new after more
  state_taken missed m numbers new known after rest more name cut told value grown s =
      let ns = named name in
      let before = λ (e : m ≡ None). still_none missed (first_missed (identifier_meets name)) m (is_room_for left (length numbers) 1) told e in
      record {
        names = s.names ++ ns;
        stands =
            counted named identifier_meets left (words_of text) identifier_fits missed (first_missed (identifier_meets name)) m (length numbers) s.names ns (s.names ++ ns) name more rest cut refl refl
            (λ e. ap length (s.numbers_are e) ∙ numbers_many first s.names) told (λ e. refl) s.stands;
        numbers_are = λ e.
            value e ∙ ap (λ xs. xs ++ numbers_from known ns) (s.numbers_are (before e)) ∙ ap (λ ks. numbers_from first s.names ++ numbers_from ks ns) (s.known_are (before e))
            ∙ sym (numbers_more first s.names ns);
        known_are = λ e. grown e ∙ ap (λ ks. with_names ks ns) (s.known_are (before e)) ∙ sym (names_more first s.names ns);
      }

  module _ (missed : Option Condition) (numbers : List ℕ) (known rest : List (List ℕ)) (none : rest ≡ []) (s : IsListed first text left missed numbers known rest) where
    pub listed_missed : missed ≡ first_missed (λ k. all_meet identifier_meets (words_of text) k && count_meets (length (states_of text)) left k)
    listed_missed = ends_missed named identifier_meets left (words_of text) missed s.names rest none s.stands

    pub listed_numbers : missed ≡ None → numbers ≡ numbers_from first (states_of text)
    listed_numbers e = s.numbers_are e ∙ ap (numbers_from first) (ends_value named identifier_meets left (words_of text) missed s.names rest none s.stands e)

-- a value between two states, and the transition
abbrev step_with : List ℕ → List ℕ → ℤ → Step
step_with p q z = record { from = p; value = z; to = q }

pub spelt_step : (p v q : List ℕ) (z : ℤ) → Ok z ≡ judged is_small (spelt_value p v q) → Ok (step_with p q z) ≡ judged is_small_step (step_by p v q)
spelt_step p v q z = by (spelt_value p v q)
  where
    on : (y : ℤ) (w : Bool) → is_small y ≡ w → Ok z ≡ (if w then Ok y else Err Magnitude) → Ok (step_with p q z) ≡ (if w then Ok (step_with p q y) else Err Magnitude)
    on y true e h = let same : z ≡ y = cc in ap (λ x. Ok (step_with p q x)) same
    on y false e h = cc

    by : (o : Option ℤ) → Ok z ≡ judged is_small o → Ok (step_with p q z) ≡ judged is_small_step (option_map (step_with p q) o)
    by None h = cc
    by (Some y) h = on y (is_small y) refl h

pub unspelt_step : (p v q : List ℕ) (k : Condition) → Err k ≡ judged is_small (spelt_value p v q) → Err k ≡ judged is_small_step (step_by p v q)
unspelt_step p v q k = by (spelt_value p v q)
  where
    on : (y : ℤ) (w : Bool) → is_small y ≡ w → Err k ≡ (if w then Ok y else Err Magnitude) → Err k ≡ (if w then Ok (step_with p q y) else Err Magnitude)
    on y true e h = cc
    on y false e h = let same : k ≡ Magnitude = cc in ap (λ x. Err x) same

    by : (o : Option ℤ) → Err k ≡ judged is_small o → Err k ≡ judged is_small_step (option_map (step_with p q) o)
    by None h = let same : k ≡ Spelling = cc in ap (λ x. Err x) same
    by (Some y) h = on y (is_small y) refl h

-- what a transition does that is read, and what one does that is not
pub read_met : (group : List ℕ) (s : Step) → Ok s ≡ judged is_small_step (step_of group) → (first_missed (step_meets group) ≡ None) × (steps_in group ≡ s ∷ [])
read_met group s h = (sym (judged_missed is_small_step (step_of group)) ∙ ap result_err (sym h), ap step_list (sym h))

pub read_unmet : (group : List ℕ) (k : Condition) → Err k ≡ judged is_small_step (step_of group) → (first_missed (step_meets group) ≡ Some k) × (steps_in group ≡ [])
read_unmet group k h = (sym (judged_missed is_small_step (step_of group)) ∙ ap result_err (sym h), ap step_list (sym h))

pub joined_some : (missed : Option Condition) (k : Condition) (room : Bool) → joined missed (Some k) room ≡ earlier_of missed (Some k)
joined_some None k room = refl
joined_some (Some j) k room = refl
