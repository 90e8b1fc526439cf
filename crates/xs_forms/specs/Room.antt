-- Room for the tests of constraints: flags for the states of automata, and values to sort. How much a constraint asks.
use Rattle.std.specs.Prelude.{◌≡◌, ℕ, ℤ, ◌+◌, ◌≤◌, max, List, [], ◌∷◌, ◌++◌, length, slice_set, replicate, Bool, true, false, Option, None, Some}
use Rattle.xs_model.specs.declared.instance.Constraint.{Constraint}
use Rattle.xs_model.specs.declared.instance.Constraint.TheVariants.{Intension, Extension, Unary, Regular, Mdd, AllDifferent, DifferentLists, DifferentMatrix, AllEqual, Ordered, Lex, LexMatrix, Sum, Count, NValues, Cardinality, Minimum, Maximum, Element, ElementMatrix, Channel, ChannelTwo, ChannelValue, NoOverlap, Cumulative, Circuit, Instantiation}
use Rattle.xs_model.specs.declared.instance.Body.{Body}
use Rattle.xs_model.specs.declared.instance.Body.TheVariants as body
use Rattle.xs_model.specs.declared.instance.Objective.{Objective}
use Rattle.xs_model.specs.declared.instance.Instance.{Instance}
use Rattle.xs_model.specs.Fitting.{ends_of}

-- the states that a constraint mentions
abbrev pub states_of : Constraint → List ℕ
states_of (Regular list edges start finals) = ends_of edges ++ start ∷ finals
states_of (Mdd list edges root leaf) = ends_of edges ++ root ∷ leaf ∷ []
states_of c = []

-- one more than the greatest of the states
abbrev pub past_states : List ℕ → ℕ
past_states [] = 0
past_states (q ∷ qs) = max (q + 1) (past_states qs)

-- how many states a constraint has, which are numbered from 0 on
abbrev pub states_in : Constraint → ℕ
states_in c = past_states (states_of c)

-- the greatest number of states of a constraint
abbrev pub most_states : List Constraint → ℕ
most_states [] = 0
most_states (c ∷ cs) = max (states_in c) (most_states cs)

-- the greatest length of a row
abbrev pub longest_row : {X : Type 0} → List (List X) → ℕ
longest_row [] = 0
longest_row (r ∷ rs) = max (length r) (longest_row rs)

-- the greatest length of a row or of a column
abbrev pub longest_line : {X : Type 0} → List (List X) → ℕ
longest_line rows = max (length rows) (longest_row rows)

-- the greatest length of a list of a constraint, or of a line of its matrix
abbrev pub longest_in : Constraint → ℕ
longest_in (Intension e) = 0
longest_in (Extension list tuples positive) = length list
longest_in (Unary v spans positive) = 0
longest_in (Regular list edges start finals) = length list
longest_in (Mdd list edges root leaf) = length list
longest_in (AllDifferent list except) = max (length list) (length except)
longest_in (DifferentLists lists) = longest_line lists
longest_in (DifferentMatrix rows) = longest_line rows
longest_in (AllEqual list) = length list
longest_in (Ordered list lengths rel) = length list
longest_in (Lex lists rel) = longest_line lists
longest_in (LexMatrix rows rel) = longest_line rows
longest_in (Sum list coeffs cond) = length list
longest_in (Count list vs cond) = max (length list) (length vs)
longest_in (NValues list except cond) = max (length list) (length except)
longest_in (Cardinality list vs occurs closed) = max (length list) (length vs)
longest_in (Minimum list cond) = length list
longest_in (Maximum list cond) = length list
longest_in (Element list start index cond) = length list
longest_in (ElementMatrix rows row_start col_start row col cond) = longest_line rows
longest_in (Channel list start) = length list
longest_in (ChannelTwo first s second t) = max (length first) (length second)
longest_in (ChannelValue list start v) = length list
longest_in (NoOverlap origins lengths zero_ignored) = longest_line origins
longest_in (Cumulative origins lengths heights ends cond) = length origins
longest_in (Circuit list start size) = length list
longest_in (Instantiation list vs) = length list

abbrev pub most_longest : List Constraint → ℕ
most_longest [] = 0
most_longest (c ∷ cs) = max (longest_in c) (most_longest cs)

-- the length of the list of an objective
abbrev pub body_length : Body → ℕ
body_length (body.Value e) = 0
body_length (body.Sum list coeffs) = length list
body_length (body.Least list) = length list
body_length (body.Greatest list) = length list
body_length (body.Distinct list) = length list

abbrev pub goal_length : Option Objective → ℕ
goal_length None = 0
goal_length (Some o) = body_length o.body

-- two lists of flags, the values that were put, and how many may be put in all
pub record Room : Type 0 where
  pub first : List Bool
  pub second : List Bool
  pub values : List ℤ
  pub most : ℕ

abbrev pub flags_in : Bool → Room → List Bool
flags_in true r = r.second
flags_in false r = r.first

-- with a flag set in the first or in the second list
abbrev pub with_flag : Room → Bool → ℕ → Bool → Room
with_flag r true at flag = record { first = r.first; second = slice_set r.second at flag; values = r.values; most = r.most }
with_flag r false at flag = record { first = slice_set r.first at flag; second = r.second; values = r.values; most = r.most }

-- with these values put
abbrev pub with_values : Room → List ℤ → Room
with_values r zs = record { first = r.first; second = r.second; values = zs; most = r.most }

-- so many flags in each list, none of them set, and no values
abbrev pub empty_room : ℕ → ℕ → Room
empty_room states most = record { first = replicate states false; second = replicate states false; values = []; most = most }

-- the room that is made for an instance
abbrev pub room_for : Instance → Room
room_for i = empty_room (most_states i.constraints) (max (most_longest i.constraints) (goal_length i.objective))

-- the lists of s are as long as those of r, and as many values may be put
pub record IsAsLong (r s : Room) : Type 0 where
  pub first : length s.first ≡ length r.first
  pub second : length s.second ≡ length r.second
  pub most : s.most ≡ r.most

-- a flag in both lists for each state of a constraint, and as many values may be put as its longest list has members
pub record IsRoomFor (c : Constraint) (r : Room) : Type 0 where
  pub first : states_in c ≤ length r.first
  pub second : states_in c ≤ length r.second
  pub most : longest_in c ≤ r.most

-- as many values may be put as the list of the objective has members
abbrev pub IsRoomForGoal : Option Objective → Room → Type 0
IsRoomForGoal o r = goal_length o ≤ r.most
