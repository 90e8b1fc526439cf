-- Tables and automata (XCSP3-core, "extension", "regular" and "mdd"), on lists of values.
use Rattle.std.specs.Prelude.{◌≡◌, ℕ, ℤ, List, [], ◌∷◌, Option, None, Some, Bool, true, false, ⊤}
use Rattle.std.specs.List.{AllByRecursion}
use Rattle.xf_num.specs.Domain.{IsMember}
use Rattle.xf_num.specs.Span.{Bounds}
use Rattle.xs_model.specs.declared.instance.Edge.{Edge}
use Rattle.xs_model.specs.Lists.{SomeOf}

-- a tuple agrees with values, place by place: an entry is the value, or none and agrees with all
abbrev pub Agrees : List (Option ℤ) → List ℤ → Type 0
Agrees [] [] = ⊤
Agrees [] (x ∷ xs) = ⊥
Agrees (e ∷ es) [] = ⊥
Agrees (None ∷ es) (x ∷ xs) = Agrees es xs
Agrees (Some z ∷ es) (x ∷ xs) = (x ≡ z) × Agrees es xs

-- some tuple of supports agrees with the values; none of conflicts does
abbrev pub IsInTable : Bool → List (List (Option ℤ)) → List ℤ → Type 0
IsInTable true tuples xs = SomeOf (λ t. Agrees t xs) tuples
IsInTable false tuples xs = AllByRecursion (λ t. ¬ (Agrees t xs)) tuples

-- the value is in some span of supports; in none of conflicts
abbrev pub IsInSpans : Bool → List Bounds → ℤ → Type 0
IsInSpans true spans x = IsMember spans x
IsInSpans false spans x = ¬ (IsMember spans x)

-- a transition leads from p by x to q
abbrev pub Leads : List Edge → ℕ → ℤ → ℕ → Type 0
Leads edges p x q = SomeOf (λ e. e ≡ record { from = p; value = x; to = q }) edges

-- a path of transitions spells the values, from p to q
abbrev pub Spells : List Edge → ℕ → List ℤ → ℕ → Type 0
Spells edges p [] q = p ≡ q
Spells edges p (x ∷ xs) q = (r : ℕ) × (Leads edges p x r × Spells edges r xs q)

-- such a path leads from the start to a final state
abbrev pub IsAccepting : List Edge → ℕ → List ℕ → List ℤ → Type 0
IsAccepting edges start finals xs = SomeOf (λ q. Spells edges start xs q) finals
