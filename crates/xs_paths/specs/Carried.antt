-- The same by recursions over the values, which carry what is reached so far.
use Rattle.std.specs.Prelude.{◌≡◌, ◌↔◌, ℕ, ℤ, List, [], ◌∷◌, map, Bool, true, false, ◌&&◌, ◌||◌, filter, eqb, if◌then◌else◌}
use Rattle.std.specs.List.{list_any, range_with_len}
use Rattle.std.specs.Ordering.{int_eq}
use Rattle.xs_model.specs.declared.instance.Edge.{Edge}
use Rattle.xs_model.specs.Language.{IsAccepting}
use Rattle.xs_paths.specs.Layers.{once, targets, finals_of}
use Rattle.xs_paths.specs.Steps.{is_seen}

-- whether a transition to q leads from one of the states that are reached, by x
abbrev pub is_next : List Edge → List ℕ → (ℕ → Bool) → ℤ → ℕ → Bool
is_next edges qs reached x q = list_any (λ e. reached e.from && int_eq x e.value) (filter (λ e. eqb e.to q && list_any (eqb e.from) qs) edges)

-- whether the values lead from the reached ones among these states to a final state
abbrev pub is_accepted_from : List Edge → List ℕ → List ℕ → (ℕ → Bool) → List ℤ → Bool
is_accepted_from edges finals qs reached [] = list_any reached (finals_of finals qs)
is_accepted_from edges finals qs reached (x ∷ xs) = is_accepted_from edges finals (targets edges qs) (is_next edges qs reached x) xs

-- the law: accepted is what leads so from the start
abbrev pub AcceptedFromLaw : Type 0
AcceptedFromLaw = (edges : List Edge) (start : ℕ) (finals : List ℕ) (xs : List ℤ) → IsAccepting edges start finals xs ↔ (is_accepted_from edges finals (start ∷ []) (λ q. true) xs ≡ true)

-- whether a state is reached, where the truths stand beside the states
abbrev pub reach_at : List ℕ → List Bool → ℕ → Bool
reach_at [] rs q = false
reach_at (p ∷ ps) [] q = false
reach_at (p ∷ ps) (r ∷ rs) q = if eqb p q then r else reach_at ps rs q

-- for each state of the next layer whether it is reached by x
abbrev pub reached_next : List Edge → List ℕ → List Bool → ℤ → List Bool
reached_next edges qs rs x = map (is_next edges qs (reach_at qs rs) x) (targets edges qs)

-- whether the values lead from these states, as they are reached, to a final state
abbrev pub is_accepted_by : List Edge → List ℕ → List ℕ → List Bool → List ℤ → Bool
is_accepted_by edges finals qs rs [] = list_any (reach_at qs rs) (finals_of finals qs)
is_accepted_by edges finals qs rs (x ∷ xs) = is_accepted_by edges finals (targets edges qs) (reached_next edges qs rs x) xs

-- the law: accepted is what leads so from the start, which is reached
abbrev pub AcceptedByLaw : Type 0
AcceptedByLaw = (edges : List Edge) (start : ℕ) (finals : List ℕ) (xs : List ℤ) → IsAccepting edges start finals xs ↔ (is_accepted_by edges finals (start ∷ []) (true ∷ []) xs ≡ true)

-- for each transition from one of these states, its target and whether it is reached by x
abbrev pub arrivals : List Edge → List ℕ → List Bool → ℤ → List (ℕ × Bool)
arrivals edges qs rs x = map (λ e. (e.to, reach_at qs rs e.from && int_eq x e.value)) (filter (λ e. list_any (eqb e.from) qs) edges)

-- the laws: the next states are the targets of these, each once, and such a state is reached where one of them is
abbrev pub TargetsLaw : Type 0
TargetsLaw = (edges : List Edge) (qs : List ℕ) (rs : List Bool) (x : ℤ) → targets edges qs ≡ once (map (λ (r : ℕ × Bool). r.0) (arrivals edges qs rs x))

abbrev pub ArrivalsLaw : Type 0
ArrivalsLaw = (edges : List Edge) (qs : List ℕ) (rs : List Bool) (x : ℤ) (q : ℕ)
    → is_next edges qs (reach_at qs rs) x q ≡ list_any (λ (r : ℕ × Bool). r.1) (filter (λ (r : ℕ × Bool). eqb r.0 q) (arrivals edges qs rs x))

-- whether t or one of them so far
abbrev pub seen_from : Bool → List Bool → List Bool
seen_from t [] = []
seen_from t (b ∷ bs) = (t || b) ∷ seen_from (t || b) bs

-- the law: what is seen, in order
abbrev pub SeenLaw : Type 0
SeenLaw = (f : ℕ → Bool) (n : ℕ) → map (is_seen f) (range_with_len 0 n) ≡ seen_from false (map f (range_with_len 0 n))
