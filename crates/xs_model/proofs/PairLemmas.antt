-- A fact of each pair of a list, by recursion.
use Rattle.std.proofs.Common.{List, [], ◌∷◌, AllPairs, All, arith}
use Rattle.std.specs.Prelude.{⊤}
use Rattle.std.specs.List.{AllByRecursion}
use Rattle.std.proofs.lemmas.List.Elements.{All-cons}
use Rattle.std.proofs.lemmas.List.Kept.{AllPairs-cons}

-- R holds of each and every later one
abbrev pub PairsOf : {X : Type 0} → (X → X → Type 0) → List X → Type 0
PairsOf R [] = ⊤
PairsOf R (x ∷ xs) = AllByRecursion (R x) xs × PairsOf R xs

all_of : {X : Type 0} (P : X → Type 0) (xs : List X) → AllByRecursion P xs → All P xs
all_of P [] h = λ k d lt. absurd (omega (arith, lt))
all_of P (x ∷ xs) h = All-cons P x xs h.0 (all_of P xs h.1)

pub pairs : {X : Type 0} (R : X → X → Type 0) (xs : List X) → PairsOf R xs → AllPairs R xs
pairs R [] h = λ i j d lt less. absurd (omega (arith, less))
pairs R (x ∷ xs) h = AllPairs-cons R x xs (all_of (R x) xs h.0) (pairs R xs h.1)
