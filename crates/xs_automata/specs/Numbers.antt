-- States by numbers: they are numbered from 0 on in the order in which they are first mentioned.
use Rattle.std.specs.Prelude.{ℕ, List, [], ◌∷◌, ◌++◌, if◌then◌else◌}
use Rattle.std.specs.List.{list_any, position_or_len}
use Rattle.std.specs.Str.{bytes_eq}
use Rattle.xs_automata.specs.Transitions.{Step}
use Rattle.xs_model.specs.declared.instance.Edge.{Edge}

-- the number of a state, where these were mentioned before, each listed once: its own, or the next
abbrev pub number_of : List (List ℕ) → List ℕ → ℕ
number_of known name = position_or_len (bytes_eq name) known

-- the states that were mentioned before, and this one
abbrev pub with_name : List (List ℕ) → List ℕ → List (List ℕ)
with_name known name = if list_any (bytes_eq name) known then known else known ++ name ∷ []

-- the same with the states of transitions, which mention the state that they lead from and then the one that they lead to
abbrev pub with_step : List (List ℕ) → Step → List (List ℕ)
with_step known s = with_name (with_name known s.from) s.to

abbrev pub with_steps : List (List ℕ) → List Step → List (List ℕ)
with_steps known [] = known
with_steps known (s ∷ ss) = with_steps (with_step known s) ss

-- a transition between numbers
abbrev pub edge_of : List (List ℕ) → Step → Edge
edge_of known s = record { from = number_of known s.from; value = s.value; to = number_of (with_name known s.from) s.to }

abbrev pub edges_from : List (List ℕ) → List Step → List Edge
edges_from known [] = []
edges_from known (s ∷ ss) = edge_of known s ∷ edges_from (with_step known s) ss

-- the numbers of states
abbrev pub numbers_from : List (List ℕ) → List (List ℕ) → List ℕ
numbers_from known [] = []
numbers_from known (q ∷ qs) = number_of known q ∷ numbers_from (with_name known q) qs
