-- Small cases.
use Rattle.std.proofs.Common.{◌≡◌, ◌≢◌, true, false, List, get_or, ℕ, zero, suc, ◌<◌, pos, [], ◌∷◌, ◌⊎◌, inl, inr, refl, sym, arith}
use Rattle.std.proofs.lemmas.Bool.{true≢false}
use Rattle.xs_model.specs.Schedule.{IsPlaceOf}
use Rattle.xs_model.specs.Counting.{PointsTo}
use Rattle.xs_model.specs.declared.instance.Edge.{Edge}
use Rattle.xs_paths.specs.Round.{is_circuit}
use Rattle.xs_paths.specs.Flags.{is_flagged}
use Rattle.xs_paths.specs.Carried.{is_accepted_by}
use Rattle.xs_paths.specs.Examples.{TwoCircuits, OneCircuit, NoCircuit}
use Rattle.xs_paths.proofs.Steps.{circuit_is_stepped}

pub two_circuits : TwoCircuits
two_circuits nodes h =
    let s = ((circuit_is_stepped (pos 0) (pos 1 ∷ pos 0 ∷ pos 3 ∷ pos 2 ∷ []) nodes).0 h).0 in
    true≢false (sym (s.meets 2 (omega arith) refl))

pub no_circuit : NoCircuit
no_circuit start nodes h = let s = ((circuit_is_stepped start [] nodes).0 h).0 in let e = s.many in absurd (omega arith)

apart : (i j d : ℕ) → i < j → j < 2 → get_or (1 ∷ 2 ∷ []) i d ≢ get_or (1 ∷ 2 ∷ []) j d
apart i zero d lt hj = absurd (omega arith)
apart zero (suc zero) d lt hj = λ e. absurd (omega arith)
apart (suc i) (suc zero) d lt hj = absurd (omega arith)
apart i (suc (suc j)) d lt hj = absurd (omega arith)

standing : (p : ℕ) → p < 3 → IsPlaceOf (1 ∷ 2 ∷ []) p ⊎ PointsTo (pos 1) (pos 1 ∷ pos 3 ∷ pos 2 ∷ []) p p
standing zero lt = inr refl
standing (suc zero) lt = inl (inl refl)
standing (suc (suc zero)) lt = inl (inr (inl refl))
standing (suc (suc (suc p))) lt = absurd (omega arith)

pub one_circuit : OneCircuit
one_circuit = record {
  first = 1;
  rest = 2 ∷ [];
  circuit = record { two = omega arith; distinct = λ i j d lt hj. apart i j d lt hj; leads = (refl, (refl, tt)) };
  inside = (omega arith, (omega arith, tt));
  others = standing;
  count = refl;
}

-- the test: two circuits, one circuit beside a place that stays, an empty list, and places that all stay
tested_two : is_circuit (pos 0) (pos 1 ∷ pos 0 ∷ pos 3 ∷ pos 2 ∷ []) ≡ false
tested_two = refl

tested_one : is_circuit (pos 1) (pos 1 ∷ pos 3 ∷ pos 2 ∷ []) ≡ true
tested_one = refl

tested_none : is_circuit (pos 0) [] ≡ false
tested_none = refl

tested_still : is_circuit (pos 0) (pos 0 ∷ pos 1 ∷ []) ≡ false
tested_still = refl

-- a value that is no index, and two places with one value
tested_past : is_circuit (pos 0) (pos 1 ∷ pos 2 ∷ []) ≡ false
tested_past = refl

tested_twice : is_circuit (pos 0) (pos 1 ∷ pos 0 ∷ pos 0 ∷ []) ≡ false
tested_twice = refl

-- an automaton that reads 1 from state 0 to 1, and 2 from 1 to 1, with the final state 1
abbrev one_then_twos : List Edge
one_then_twos = record { from = 0; value = pos 1; to = 1 } ∷ record { from = 1; value = pos 2; to = 1 } ∷ []

read_right : is_flagged 2 one_then_twos 0 (1 ∷ []) (pos 1 ∷ pos 2 ∷ pos 2 ∷ []) ≡ true
read_right = refl

read_wrong : is_flagged 2 one_then_twos 0 (1 ∷ []) (pos 2 ∷ []) ≡ false
read_wrong = refl

read_nothing : is_flagged 2 one_then_twos 0 (1 ∷ []) [] ≡ false
read_nothing = refl

carried_right : is_accepted_by one_then_twos (1 ∷ []) (0 ∷ []) (true ∷ []) (pos 1 ∷ pos 2 ∷ pos 2 ∷ []) ≡ true
carried_right = refl

carried_wrong : is_accepted_by one_then_twos (1 ∷ []) (0 ∷ []) (true ∷ []) (pos 2 ∷ []) ≡ false
carried_wrong = refl
