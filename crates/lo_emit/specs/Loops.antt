-- What is appended for each member of a list, in turn.
use Rattle.std.specs.Prelude.{ℕ, ◌+◌, ℤ, List, [], ◌∷◌, ◌++◌}
use Rattle.std.specs.List.{AllByRecursion}
use Rattle.lo_base.specs.Item.{Item, made}
use Rattle.lo_emit.specs.declared.term.Term.{Term}
use Rattle.lo_emit.specs.Emitted.{Out, Outs}

-- the items of each member; the function takes the next variable and the member
abbrev pub for_all : {X : Type 0} → (ℕ → X → List Item) → ℕ → List X → List Item
for_all f n [] = []
for_all f n (x ∷ xs) = f n x ++ for_all f (n + made (f n x)) xs

-- the items of each member, and what stands for each
abbrev pub each : {X : Type 0} → (ℕ → X → Out) → ℕ → List X → Outs
each f n [] = record { items = []; terms = [] }
each f n (x ∷ xs) = record {
  items = (f n x).items ++ (each f (n + made (f n x).items) xs).items;
  terms = (f n x).term ∷ (each f (n + made (f n x).items) xs).terms;
}

-- the items of each two members, by the first and then by the second
abbrev pub for_pairs : {X : Type 0} → (ℕ → X → X → List Item) → ℕ → List X → List Item
for_pairs f n [] = []
for_pairs f n (x ∷ xs) = for_all (λ m y. f m x y) n xs ++ for_pairs f (n + made (for_all (λ m y. f m x y) n xs)) xs

-- the items of each member, and a state that goes from one to the next
pub record Step (S : Type 0) : Type 0 where
  pub items : List Item
  pub state : S

abbrev pub in_turn : {S X : Type 0} → (ℕ → S → X → Step S) → ℕ → S → List X → Step S
in_turn f n s [] = record { items = []; state = s }
in_turn f n s (x ∷ xs) = record {
  items = (f n s x).items ++ (in_turn f (n + made (f n s x).items) (f n s x).state xs).items;
  state = (in_turn f (n + made (f n s x).items) (f n s x).state xs).state;
}

-- R holds of each two members
abbrev pub Pairwise : {X : Type 0} → (X → X → Type 0) → List X → Type 0
Pairwise R [] = Unit {0}
Pairwise R (x ∷ xs) = AllByRecursion (R x) xs × Pairwise R xs

-- each term beside the member for which it stands
abbrev pub paired : {X : Type 0} → List Term → List X → List (Term × X)
paired [] xs = []
paired (t ∷ ts) [] = []
paired (t ∷ ts) (x ∷ xs) = (t, x) ∷ paired ts xs

-- P holds of each member, the members before it and the values
abbrev pub Along : {X : Type 0} → (List X → X → List ℤ → Type 0) → List X → List X → List ℤ → Type 0
Along P done [] b = Unit {0}
Along P done (x ∷ xs) b = P done x b × Along P (done ++ x ∷ []) xs b
