-- In a circuit every value is an index.
use Rattle.std.proofs.Common.{◌≡◌, ℕ, ◌<◌, ℤ, List, [], ◌∷◌, ◌++◌, length, subst, sym, inl, inr}
use Rattle.std.specs.List.{AllByRecursion}
use Rattle.xs_model.specs.Counting.{PointsTo}
use Rattle.xs_model.specs.Lists.{Consecutive, SomeOf}
use Rattle.xs_model.specs.Schedule.{IsCircuit}

-- each of x and ys is followed by one of ys or by z
followed : {X : Type 0} (R : X → X → Type 0) (P : X → Type 0) (x : X) (ys : List X) (z : X) → AllByRecursion P ys → P z → Consecutive R (x ∷ (ys ++ z ∷ [])) → (p : X) → SomeOf (λ q. p ≡ q) (x ∷ ys) → (q : X) × P q × R p q
followed R P x [] z all last c p s = elim s [ inl e ↦ (z, last, subst (λ u. R u z) (sym e) c.0) | inr o ↦ absurd o ]
followed R P x (y ∷ ys) z all last c p s = elim s [ inl e ↦ (y, all.0, subst (λ u. R u y) (sym e) c.0) | inr o ↦ followed R P y ys z all.1 last c.1 p o ]

pub each_index : (start : ℤ) (xs : List ℤ) (n : ℕ) → IsCircuit start xs n → (p : ℕ) → p < length xs → (q : ℕ) × (q < length xs) × PointsTo start xs p q
each_index start xs n c p lt = elim (c.others p lt) [
  | inl s ↦ followed (PointsTo start xs) (λ q. q < length xs) c.first c.rest c.first c.inside.1 c.inside.0 c.circuit.leads p s
  | inr i ↦ (p, lt, i)
]
