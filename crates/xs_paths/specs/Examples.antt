-- Small cases, so that the definitions are seen to say what they should.
use Rattle.std.specs.Prelude.{ℕ, ℤ, pos, [], ◌∷◌}
use Rattle.xs_model.specs.Schedule.{IsCircuit}

-- two circuits side by side are none: the walk from the first moved place does not meet the third place
abbrev pub TwoCircuits : Type 0
TwoCircuits = (nodes : ℕ) → IsCircuit (pos 0) (pos 1 ∷ pos 0 ∷ pos 3 ∷ pos 2 ∷ []) nodes → ⊥

-- a place that stays, then a circuit of two, counted from 1
abbrev pub OneCircuit : Type 0
OneCircuit = IsCircuit (pos 1) (pos 1 ∷ pos 3 ∷ pos 2 ∷ []) 2

-- an empty list has none
abbrev pub NoCircuit : Type 0
NoCircuit = (start : ℤ) (nodes : ℕ) → IsCircuit start [] nodes → ⊥
