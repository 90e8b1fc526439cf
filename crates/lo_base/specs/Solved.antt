-- What it means that values meet items, and that they can be extended to.
use Rattle.std.specs.Prelude.{◌≡◌, ℕ, ◌+◌, ◌≤◌, ℤ, ◌≤ℤ◌, List, [], ◌∷◌, ◌++◌, length}
use Rattle.fz_model.specs.Fixing.{IsBit}
use Rattle.fz_model.specs.Meaning.{at, CallHolds}
use Rattle.lo_base.specs.Item.{Item, Ranged, Boolean, Posted, made}

-- b, the values of all variables, meets the items, the first of whose variables is n: each new variable has a value of
-- its domain, and each call is true
abbrev pub Meets : ℕ → List Item → List ℤ → Type 0
Meets n [] b = Unit {0}
Meets n (Ranged lo hi ∷ xs) b = (lo ≤ℤ at b n) × (at b n ≤ℤ hi) × Meets (n + 1) xs b
Meets n (Boolean ∷ xs) b = IsBit (at b n) × Meets (n + 1) xs b
Meets n (Posted call ∷ xs) b = CallHolds b call × Meets n xs b

-- the values a can be extended so that the items are met, whatever comes behind
pub record Extends (a : List ℤ) (xs : List Item) : Type 0 where
  pub more : List ℤ
  pub many : length more ≡ made xs
  pub met : (d : List ℤ) → Meets (length a) xs (a ++ more ++ d)

-- The items, the first of whose variables is n, mean what P says of the values before them.
pub record Means (P : List ℤ → Type 0) (n : ℕ) (xs : List Item) : Type 0 where
  pub sound : (a c : List ℤ) → length a ≡ n → made xs ≤ length c → Meets n xs (a ++ c) → P a
  pub complete : (a : List ℤ) → length a ≡ n → P a → Extends a xs

-- the same among values before of which D holds
pub record MeansWithin (D P : List ℤ → Type 0) (n : ℕ) (xs : List Item) : Type 0 where
  pub sound : (a c : List ℤ) → length a ≡ n → made xs ≤ length c → D a → Meets n xs (a ++ c) → P a
  pub complete : (a : List ℤ) → length a ≡ n → D a → P a → Extends a xs
