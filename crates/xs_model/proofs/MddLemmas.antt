-- The root and the leaf of an `mdd` differ, so that it holds of no empty list.
use Rattle.std.proofs.Common.{◌≡◌, ◌≢◌, ℕ, ℤ, List, [], ◌∷◌, subst, ◌⊎◌, inl, inr}
use Rattle.xs_model.specs.declared.instance.Constraint.TheVariants.{Mdd}
use Rattle.xs_model.specs.declared.instance.Edge.{Edge}
use Rattle.xs_model.specs.Fitting.{IsFitting, IsSource, IsTarget, ends_of}
use Rattle.xs_model.specs.Instance.{Holds}
use Rattle.xs_model.specs.Lists.{SomeOf}

-- a state of some transition is a source or a target
is_end : (edges : List Edge) (q : ℕ) → SomeOf (λ p. p ≡ q) (ends_of edges) → IsSource edges q ⊎ IsTarget edges q
is_end [] q s = absurd s
is_end (e ∷ edges) q s = elim s [
  | inl from ↦ inl (inl from)
  | inr s ↦ elim s [
    | inl to ↦ inr (inl to)
    | inr s ↦ elim (is_end edges q s) [ inl later ↦ inl (inr later) | inr later ↦ inr (inr later) ]
  ]
]

pub ends_differ : (list : List ℕ) (edges : List Edge) (root leaf : ℕ) → IsFitting (Mdd list edges root leaf) → root ≢ leaf
ends_differ list edges root leaf h = λ same. elim (is_end edges root h.1.state) [
  | inl source ↦ h.2.is (subst (IsSource edges) same source)
  | inr target ↦ h.1.is target
]

pub no_empty_path : (edges : List Edge) (root leaf : ℕ) (a : List ℤ) → IsFitting (Mdd [] edges root leaf) → Holds (Mdd [] edges root leaf) a → ⊥
no_empty_path edges root leaf a h holds = ends_differ [] edges root leaf h holds
