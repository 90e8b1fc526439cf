-- Lists of items whose new variables have one value at most, given those before them.
use Rattle.std.specs.Prelude.{◌≡◌, ◌⊎◌, ℕ, ◌+◌, ◌<◌, ◌≤◌, ℤ, List, [], ◌∷◌, ◌++◌}
use Rattle.fz_model.specs.Fixing.{Fixes, Agree, NotOfBits}
use Rattle.lo_base.specs.Item.{Item, Ranged, Boolean, Posted, made}
use Rattle.lo_base.specs.Solved.{Meets}

-- among the items, the first of whose variables is n, one gives variable k a single value or fixes it
abbrev pub Settles : ℕ → ℕ → List Item → Type 0
Settles k n [] = ⊥
Settles k n (Ranged lo hi ∷ xs) = ((k ≡ n) × (lo ≡ hi)) ⊎ Settles k (n + 1) xs
Settles k n (Boolean ∷ xs) = Settles k (n + 1) xs
Settles k n (Posted call ∷ xs) = Fixes k call ⊎ Settles k n xs

-- of each call, the truth values that have to be 0 or 1 are
abbrev pub AreBits : List Item → List ℤ → Type 0
AreBits [] b = Unit {0}
AreBits (Ranged lo hi ∷ xs) b = AreBits xs b
AreBits (Boolean ∷ xs) b = AreBits xs b
AreBits (Posted call ∷ xs) b = NotOfBits b call × AreBits xs b

-- each variable that the items make is settled by one of them: a fact about the domains and the calls alone
pub record Stepwise (n : ℕ) (xs : List Item) : Type 0 where
  pub each : (k : ℕ) → n ≤ k → k < n + made xs → Settles k n xs

-- the law: two lists of values that meet the items, in which the truth values are 0 or 1, and that agree before n agree
-- on all that the items make
abbrev pub OneExtension : Type 0
OneExtension = (n : ℕ) (xs : List Item) (b c : List ℤ) → Stepwise n xs → AreBits xs b → AreBits xs c → Agree n b c → Meets n xs b → Meets n xs c → Agree (n + made xs) b c

-- two stepwise lists in a row are one
abbrev pub Joins : Type 0
Joins = (n : ℕ) (xs ys : List Item) → Stepwise n xs → Stepwise (n + made xs) ys → Stepwise n (xs ++ ys)
