-- The load of tasks (XCSP3-core, "cumulative") where it can be greatest: at their starts.
use Rattle.std.specs.Prelude.{◌≡◌, ◌↔◌, ℕ, ◌<◌, ℤ, pos, ◌≤ℤ◌, ◌<ℤ◌, int_le, int_lt, List, [], ◌∷◌, length, Bool, true, ◌&&◌}
use Rattle.std.specs.List.{AllByRecursion, list_all}
use Rattle.xs_model.specs.declared.term.Cond.{Cond}
use Rattle.xs_model.specs.Conditions.{Meets}
use Rattle.xs_model.specs.Counting.{weighted_sum}
use Rattle.xs_model.specs.Fitting.{IsLimit}
use Rattle.xs_model.specs.Schedule.{load, IsCumulative, AreEnds}
use Rattle.xs_model.specs.Value.{at, truth}
use Rattle.xs_laws.specs.Meeting.{meets}

-- what is below a number that meets P meets it
abbrev pub IsUpper : (ℤ → Type 0) → Type 0
IsUpper P = (x y : ℤ) → x ≤ℤ y → P y → P x

abbrev pub AreNatural : List ℤ → Type 0
AreNatural hs = AllByRecursion (λ h. pos 0 ≤ℤ h) hs

-- 0 is as P says, and the load at each start
abbrev pub IsPeaked : (ℤ → Type 0) → List ℤ → List ℤ → List ℤ → Type 0
IsPeaked P ss ls hs = P (pos 0) × ((i : ℕ) → i < length ss → P (load (at ss i) ss ls hs))

-- for a P that is met by what is below: a peak lies at a start
abbrev pub HasPeakAtStart : (ℤ → Type 0) → Type 0
HasPeakAtStart P = (ss ls hs : List ℤ) → AreNatural hs → IsCumulative P ss ls hs ↔ IsPeaked P ss ls hs

-- for each task 1 where it runs at t, else 0
abbrev pub running : ℤ → List ℤ → List ℤ → List ℤ
running t [] es = []
running t (s ∷ ss) [] = []
running t (s ∷ ss) (e ∷ es) = truth (int_le s t && int_lt t e) ∷ running t ss es

-- the same, by ends
abbrev pub IsPeakedByEnds : (ℤ → Type 0) → List ℤ → List ℤ → List ℤ → Type 0
IsPeakedByEnds P ss es hs = P (pos 0) × ((i : ℕ) → i < length ss → P (weighted_sum hs (running (at ss i) ss es)))

-- for a P that is met by what is below: a peak lies at a start, where the ends are starts plus lengths
abbrev pub HasPeakByEnds : (ℤ → Type 0) → Type 0
HasPeakByEnds P = (ss ls es hs : List ℤ) → AreNatural hs → AreEnds ss ls es → IsCumulative P ss ls hs ↔ IsPeakedByEnds P ss es hs

-- the law, for both conditions
abbrev pub CumulativeLaw : Type 0
CumulativeLaw = (k : ℤ) → HasPeakAtStart (λ x. x ≤ℤ k) × HasPeakAtStart (λ x. x <ℤ k)

abbrev pub CumulativeEndsLaw : Type 0
CumulativeEndsLaw = (k : ℤ) → HasPeakByEnds (λ x. x ≤ℤ k) × HasPeakByEnds (λ x. x <ℤ k)

-- the laws, for a condition that is a limit
abbrev pub LimitLaw : Type 0
LimitLaw = (a : List ℤ) (cond : Cond) → IsLimit cond → HasPeakAtStart (Meets a cond) × HasPeakByEnds (Meets a cond)

-- whether 0 passes, and the load at each start
abbrev pub is_peaked : (ℤ → Bool) → List ℤ → List ℤ → List ℤ → Bool
is_peaked test ss ls hs = test (pos 0) && list_all (λ s. test (load s ss ls hs)) ss

abbrev pub PeakTestLaw : Type 0
PeakTestLaw = (a : List ℤ) (cond : Cond) (ss ls hs : List ℤ) → IsLimit cond → AreNatural hs → IsCumulative (Meets a cond) ss ls hs ↔ (is_peaked (meets a cond) ss ls hs ≡ true)
