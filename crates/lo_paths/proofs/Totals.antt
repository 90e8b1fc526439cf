-- How many arrivals there are at states of which each stands once.
use Rattle.std.proofs.Common.{◌≡◌, ℕ, suc, ◌+◌, ◌*◌, ◌≤◌, Bool, true, false, not, if◌then◌else◌, Option, None, Some, List, [], ◌∷◌, ◌++◌, length, map, refl, ap, ap₂, sym, ◌∙◌, arith}
use Rattle.std.specs.Prelude.{eqb, filter}
use Rattle.std.specs.Option.{option_map}
use Rattle.std.proofs.lemmas.Bool.{eqb-true}
use Rattle.lo_emit.specs.declared.term.Term.{Term}
use Rattle.lo_paths.specs.declared.path.Arrival.{Arrival}
use Rattle.lo_paths.specs.Path.{arriving_one, arriving, targets_of}
use Rattle.lo_paths.specs.Places.{place}
use Rattle.lo_paths.proofs.Arrivals.{filter_few}
use Rattle.lo_paths.proofs.Targets.{turned}
use Rattle.lo_paths.proofs.Weighted.{total}
use Rattle.xs_paths.specs.Layers.{once}

abbrev pub one_if : Bool → ℕ
one_if true = 1
one_if false = 0

-- how often a state stands in a list
pub times : ℕ → List ℕ → ℕ
times p [] = 0
times p (q ∷ qs) = one_if (eqb p q) + times p qs

fewer : (p : ℕ) (f : ℕ → Bool) (qs : List ℕ) → times p (filter f qs) ≤ times p qs
unfolding times
fewer p f [] = omega arith
fewer p f (q ∷ qs) = by (f q) (fewer p f qs)
  where
    by : (t : Bool) → times p (filter f qs) ≤ times p qs → times p (if t then q ∷ filter f qs else filter f qs) ≤ one_if (eqb p q) + times p qs
    by true h = omega (arith, h)
    by false h = omega (arith, h)

none_left : (p q : ℕ) (qs : List ℕ) → p ≡ q → times p (filter (λ r. not (eqb q r)) qs) ≡ 0
unfolding times
none_left p q [] e = refl
none_left p q (r ∷ qs) e = by (eqb q r) refl (none_left p q qs e)
  where
    rest : List ℕ
    rest = filter (λ s. not (eqb q s)) qs

    by : (t : Bool) → eqb q r ≡ t → times p rest ≡ 0 → times p (if not t then r ∷ rest else rest) ≡ 0
    by true d h = h
    by false d h = ap₂ (λ (m n : ℕ). m + n) (ap one_if (ap (λ (k : ℕ). eqb k r) e ∙ d)) h

pub once_only : (p : ℕ) (qs : List ℕ) → times p (once qs) ≤ 1
unfolding times
once_only p [] = omega arith
once_only p (q ∷ qs) = by (eqb p q) refl (once_only p qs)
  where
    by : (t : Bool) → eqb p q ≡ t → times p (once qs) ≤ 1 → one_if t + times p (filter (λ r. not (eqb q r)) (once qs)) ≤ 1
    by true e h = let none = none_left p q (once qs) (eqb-true p q e) in omega (arith, none)
    by false e h = let less = fewer p (λ r. not (eqb q r)) (once qs) in omega (arith, less, h)

-- a state that stands nowhere, or in front

pub none_of : (s : ℕ) (qs : List ℕ) → times s qs ≡ 0 → place qs s ≡ None
unfolding times
none_of s [] e = refl
none_of s (q ∷ qs) e = by (eqb s q) e (none_of s qs)
  where
    by : (t : Bool) → one_if t + times s qs ≡ 0 → (times s qs ≡ 0 → place qs s ≡ None) → (if t then Some 0 else option_map suc (place qs s)) ≡ None
    by true h rest = absurd (omega (arith, h))
    by false h rest = ap (λ (o : Option ℕ). option_map suc o) (rest (omega (arith, h)))

pub once_then : (s q : ℕ) (qs : List ℕ) → times s (q ∷ qs) ≤ 1 → one_if (eqb s q) + times s qs ≤ 1
unfolding times
once_then s q qs h = h

one_long : (q : ℕ) (a : Arrival) (ts : List Term) (t : Bool) → length ((if t then a.truth ∷ [] else []) ++ ts) ≡ one_if t + length ts
one_long q a ts true = omega arith
one_long q a ts false = omega arith

with_first : (a : Arrival) (rs : List Arrival) (qs : List ℕ) → total (λ q. length (arriving q (a ∷ rs))) qs ≡ times a.state qs + total (λ q. length (arriving q rs)) qs
unfolding times
with_first a rs [] = omega arith
with_first a rs (q ∷ qs) = let rest = with_first a rs qs in let here = one_long q a (arriving q rs) (eqb a.state q) in omega (arith, rest, here)

none_at : (qs : List ℕ) → total (λ q. length (arriving q [])) qs ≡ 0
none_at [] = omega arith
none_at (q ∷ qs) = let rest = none_at qs in omega (arith, rest)

at_most_all : (rs : List Arrival) (qs : List ℕ) → ((p : ℕ) → times p qs ≤ 1) → total (λ q. length (arriving q rs)) qs ≤ length rs
at_most_all [] qs h = let none = none_at qs in omega (arith, none)
at_most_all (a ∷ rs) qs h = let rest = at_most_all rs qs h in let first = with_first a rs qs in let one = h a.state in omega (arith, rest, first, one)

two_more : (rs : List Arrival) (qs : List ℕ) → total (λ q. 2 + length (arriving q rs)) qs ≡ 2 * length qs + total (λ q. length (arriving q rs)) qs
two_more rs [] = omega arith
two_more rs (q ∷ qs) = let rest = two_more rs qs in omega (arith, rest)

pub once_few : (qs : List ℕ) → length (once qs) ≤ length qs
once_few [] = omega arith
once_few (q ∷ qs) = let less = filter_few (λ p. not (eqb q p)) (once qs) in let rest = once_few qs in omega (arith, less, rest)

states_few : (rs : List Arrival) → length (map (λ a. a.state) rs) ≡ length rs
states_few [] = refl
states_few (a ∷ rs) = ap suc (states_few rs)

pub targets_few : (rs : List Arrival) → length (targets_of rs) ≤ length rs
targets_few rs = let few = once_few (map (λ a. a.state) rs) in let same = states_few rs in omega (arith, few, same)

pub reached_few : (rs : List Arrival) → total (λ q. 2 + length (arriving q rs)) (targets_of rs) ≤ 3 * length rs
reached_few rs =
    let few = targets_few rs in
    let all = at_most_all rs (targets_of rs) (λ p. once_only p (map (λ a. a.state) rs)) in
    let two = two_more rs (targets_of rs) in
    omega (arith, few, all, two)
