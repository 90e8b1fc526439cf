-- The states that an automaton (XCSP3-core, "regular" and "mdd") reaches, layer by layer.
use Rattle.std.specs.Prelude.{◌≡◌, ◌↔◌, ℕ, zero, suc, ℤ, List, length, Bool, true, ◌&&◌, filter, eqb}
use Rattle.std.specs.List.{list_any}
use Rattle.std.specs.Ordering.{int_eq}
use Rattle.xs_model.specs.declared.instance.Edge.{Edge}
use Rattle.xs_model.specs.Language.{IsAccepting}
use Rattle.xs_model.specs.Value.{at}

-- a state that i transitions lead to from the start, whatever they read
abbrev pub is_live : List Edge → ℕ → ℕ → ℕ → Bool
is_live edges start zero q = eqb q start
is_live edges start (suc i) q = list_any (λ e. eqb e.to q && is_live edges start i e.from) edges

-- a state reached by the first i values: some transition from a state reached before reads the next value
abbrev pub is_reached : List Edge → ℕ → List ℤ → ℕ → ℕ → Bool
is_reached edges start xs zero q = eqb q start
is_reached edges start xs (suc i) q = list_any (λ e. eqb e.to q && (is_reached edges start xs i e.from && int_eq (at xs i) e.value)) edges

-- the transitions to q from states that are live at layer i
abbrev pub incoming : List Edge → ℕ → ℕ → ℕ → List Edge
incoming edges start i q = filter (λ e. eqb e.to q && is_live edges start i e.from) edges

-- the same by these transitions alone
abbrev pub is_met : List Edge → ℕ → List ℤ → ℕ → ℕ → Bool
is_met edges start xs zero q = eqb q start
is_met edges start xs (suc i) q = list_any (λ e. is_met edges start xs i e.from && int_eq (at xs i) e.value) (incoming edges start i q)

-- the final states that are live at the last layer
abbrev pub live_finals : List Edge → ℕ → List ℕ → ℕ → List ℕ
live_finals edges start finals n = filter (is_live edges start n) finals

-- whether some final state is reached by all values
abbrev pub is_final_reached : List Edge → ℕ → List ℕ → List ℤ → Bool
is_final_reached edges start finals xs = list_any (is_reached edges start xs (length xs)) finals

-- the law: then they are accepted
abbrev pub ReachLaw : Type 0
ReachLaw = (edges : List Edge) (start : ℕ) (finals : List ℕ) (xs : List ℤ) → IsAccepting edges start finals xs ↔ (is_final_reached edges start finals xs ≡ true)

-- whether some live final state is reached by live states alone
abbrev pub is_live_final_met : List Edge → ℕ → List ℕ → List ℤ → Bool
is_live_final_met edges start finals xs = list_any (is_met edges start xs (length xs)) (live_finals edges start finals (length xs))

-- the law: then the values are accepted
abbrev pub LiveReachLaw : Type 0
LiveReachLaw = (edges : List Edge) (start : ℕ) (finals : List ℕ) (xs : List ℤ) → IsAccepting edges start finals xs ↔ (is_live_final_met edges start finals xs ≡ true)
