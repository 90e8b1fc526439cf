-- The laws of an object that takes items.
use Rattle.std.specs.Prelude.{◌≡◌, ℕ, ◌+◌, ◌≤◌, List, [], ◌∷◌, ◌++◌}
use Rattle.lo_base.specs.Item.{Item, made}

-- the first list is a front of the second
abbrev pub Begins : List Item → List Item → Type 0
Begins [] zs = Unit {0}
Begins (x ∷ xs) [] = ⊥
Begins (x ∷ xs) (z ∷ zs) = (x ≡ z) × Begins xs zs

pub record EmitLaws {E : Type 0} (named count faults : E → ℕ) (grew began : E → E → List Item → Type 0) : Type 0 where
  pub enough : (e : E) → named e ≤ count e
  pub nothing : (e : E) → grew e e []
  pub joined : (a b c : E) (xs ys : List Item) → grew a b xs → grew b c ys → grew a c (xs ++ ys)
  pub then_began : (a b c : E) (xs ys : List Item) → grew a b xs → began b c ys → began a c (xs ++ ys)
  pub longer : (a b : E) (xs ys : List Item) → began a b xs → began a b (xs ++ ys)
  pub whole : (a b : E) (xs : List Item) → grew a b xs → began a b xs
  pub grew_count : (a b : E) (xs : List Item) → grew a b xs → count b ≡ count a + made xs
  pub began_count : (a b : E) (xs : List Item) → began a b xs → count a ≤ count b
  pub began_named : (a b : E) (xs : List Item) → began a b xs → named b ≡ named a
  pub began_faults : (a b : E) (xs : List Item) → began a b xs → faults a ≤ faults b
