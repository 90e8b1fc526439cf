-- The live states of an automaton as lists, layer by layer.
use Rattle.std.specs.Prelude.{◌≡◌, ◌↔◌, ℕ, zero, suc, ℤ, List, [], ◌∷◌, length, map, Bool, true, not, filter, eqb}
use Rattle.std.specs.List.{list_any}
use Rattle.xs_model.specs.declared.instance.Edge.{Edge}
use Rattle.xs_model.specs.Language.{IsAccepting}
use Rattle.xs_paths.specs.Reach.{is_live, is_met}

-- each state once, where it first stands
abbrev pub once : List ℕ → List ℕ
once [] = []
once (q ∷ qs) = q ∷ filter (λ p. not (eqb q p)) (once qs)

-- the targets of the transitions from a list of states, in order of first target
abbrev pub targets : List Edge → List ℕ → List ℕ
targets edges qs = once (map (λ e. e.to) (filter (λ e. list_any (eqb e.from) qs) edges))

abbrev pub layer : List Edge → ℕ → ℕ → List ℕ
layer edges start zero = start ∷ []
layer edges start (suc i) = targets edges (layer edges start i)

-- the final states among them
abbrev pub finals_of : List ℕ → List ℕ → List ℕ
finals_of finals qs = filter (λ q. list_any (eqb q) finals) qs

-- the law: a layer holds what is live there
abbrev pub LayerLaw : Type 0
LayerLaw = (edges : List Edge) (start i q : ℕ) → list_any (eqb q) (layer edges start i) ≡ is_live edges start i q

-- whether a final state of the last layer is reached by live states alone
abbrev pub is_layer_final_met : List Edge → ℕ → List ℕ → List ℤ → Bool
is_layer_final_met edges start finals xs = list_any (is_met edges start xs (length xs)) (finals_of finals (layer edges start (length xs)))

-- the law: then the values are accepted
abbrev pub LayerReachLaw : Type 0
LayerReachLaw = (edges : List Edge) (start : ℕ) (finals : List ℕ) (xs : List ℤ) → IsAccepting edges start finals xs ↔ (is_layer_final_met edges start finals xs ≡ true)
