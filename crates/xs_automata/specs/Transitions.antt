-- The text of `transitions`, `start` and `final` (XCSP3-core, "Constraint regular" and "Constraint mdd"): transitions
-- `(state,value,state)`, and states, which are identifiers.
use Rattle.std.specs.Prelude.{ℕ, ℤ, Bool, false, ◌&&◌, List, [], ◌∷◌, length, Option, None, Some, Result, Ok, Err, if◌then◌else◌}
use Rattle.std.specs.List.{flat_map}
use Rattle.std.specs.Option.{option_map}
use Rattle.xs_fields.specs.Conditions.{all_meet, judged, meets}
use Rattle.xs_fields.specs.Identifiers.{identifier_meets, is_identifier}
use Rattle.xs_fields.specs.Integers.{integer_of, is_small}
use Rattle.xs_fields.specs.Lists.{count_meets}
use Rattle.xs_fields.specs.Words.{is_byte, parts, words_of}
use Rattle.xs_fields.specs.declared.condition.Condition.{Condition}
use Rattle.xs_tables.specs.Groups.{groups_meet, groups_of, inner_of, spelt_meets}

-- a transition as it is written: its states are named
pub record Step : Type 0 where
  pub from : List ℕ
  pub value : ℤ
  pub to : List ℕ

-- the integer of a word between two states
abbrev pub spelt_value : List ℕ → List ℕ → List ℕ → Option ℤ
spelt_value p v q = if is_identifier p && is_identifier q then integer_of v else None

abbrev pub step_by : List ℕ → List ℕ → List ℕ → Option Step
step_by p v q = option_map (λ z. record { from = p; value = z; to = q }) (spelt_value p v q)

-- what stands between the commas: a state, an integer and a state
abbrev pub step_in : List (List ℕ) → Option Step
step_in [] = None
step_in (p ∷ []) = None
step_in (p ∷ v ∷ []) = None
step_in (p ∷ v ∷ q ∷ []) = step_by p v q
step_in (p ∷ v ∷ q ∷ r ∷ rs) = None

abbrev pub step_inside : Option (List ℕ) → Option Step
step_inside None = None
step_inside (Some inner) = step_in (parts (is_byte 44) inner)

-- what a group in parentheses spells
abbrev pub step_of : List ℕ → Option Step
step_of group = step_inside (inner_of group)

abbrev pub is_small_step : Step → Bool
is_small_step s = is_small s.value

-- a transition that is read, where it is told how its states are seen
abbrev pub seen_step : {A : Type 0} → (A → List ℕ) → Result (A × ℤ × A) Condition → Result Step Condition
seen_step seen (Ok s) = Ok (record { from = seen s.0; value = s.1; to = seen s.2 })
seen_step seen (Err k) = Err k

abbrev pub step_meets : List ℕ → Condition → Bool
step_meets group = meets is_small_step (step_of group)

abbrev pub step_list : Result Step Condition → List Step
step_list (Ok s) = s ∷ []
step_list (Err k) = []

abbrev pub steps_in : List ℕ → List Step
steps_in group = step_list (judged is_small_step (step_of group))

-- the transitions that a text denotes, and what it meets where no more than so many are allowed
abbrev pub steps_of : List ℕ → List Step
steps_of text = flat_map steps_in (groups_of text)

abbrev pub transitions_meet : List ℕ → ℕ → Condition → Bool
transitions_meet text left k = groups_meet step_meets steps_in text left k

-- the one state of a text, and what such a text meets
abbrev pub is_state : List (List ℕ) → Bool
is_state [] = false
is_state (q ∷ []) = is_identifier q
is_state (q ∷ p ∷ ps) = false

abbrev pub first_word : List (List ℕ) → List ℕ
first_word [] = []
first_word (q ∷ qs) = q

abbrev pub state_of : List ℕ → List ℕ
state_of text = first_word (words_of text)

abbrev pub state_meets : List ℕ → Condition → Bool
state_meets text k = spelt_meets (is_state (words_of text)) k

-- the states of a text, and what it meets where no more than so many are allowed
abbrev pub named : List ℕ → List (List ℕ)
named word = word ∷ []

abbrev pub states_of : List ℕ → List (List ℕ)
states_of text = flat_map named (words_of text)

abbrev pub states_meet : List ℕ → ℕ → Condition → Bool
states_meet text left k = all_meet identifier_meets (words_of text) k && count_meets (length (states_of text)) left k
