-- The laws of a list of items.
use Rattle.std.specs.Prelude.{ℕ, ◌+◌, ◌≤◌, ℤ, Bool, List, ◌++◌, length, ◌≡◌}
use Rattle.lo_base.specs.Before.{AreCallsBefore}
use Rattle.lo_base.specs.Formed.{AreFormed}
use Rattle.lo_base.specs.Item.{Item, made}
use Rattle.lo_base.specs.Lowered.{calls_of}
use Rattle.lo_base.specs.Solved.{Meets, MeansWithin}
use Rattle.lo_base.specs.Stepwise.{Stepwise}
use Rattle.lo_rules.specs.Rule.{leaves}

-- what is said of the values before does not hang on later ones
abbrev pub IsSteady : ℕ → (List ℤ → Type 0) → Type 0
IsSteady n P = (a d : List ℤ) → length a ≡ n → (P (a ++ d) → P a) × (P a → P (a ++ d))

-- The laws of a list of items, the first of whose variables is n: among values before of which W holds they mean P; each
-- new variable is settled; the calls speak of the variables before and of the new ones alone; new variables and leaves
-- of calls are at most w; and behind variables of kinds of which K holds they are well formed.
pub record IsLowered (W P : List ℤ → Type 0) (K : List Bool → Type 0) (n : ℕ) (xs : List Item) (w : ℕ) : Type 0 where
  pub means : MeansWithin W P n xs
  pub stepwise : Stepwise n xs
  pub before : AreCallsBefore (n + made xs) (calls_of xs)
  pub size : made xs + leaves xs ≤ w
  pub formed : (booleans : List Bool) → length booleans ≡ n → K booleans → AreFormed booleans xs

-- The same where D is told of the values before, by literals that earlier items made; then G is told of those behind.
pub record IsLoweredUnder (W D G P : List ℤ → Type 0) (K : List Bool → Type 0) (n : ℕ) (xs : List Item) (w : ℕ) : Type 0 where
  pub means : MeansWithin (λ a. W a × D a) P n xs
  pub tells : (b : List ℤ) → D b → Meets n xs b → G b
  pub stepwise : Stepwise n xs
  pub before : AreCallsBefore (n + made xs) (calls_of xs)
  pub size : made xs + leaves xs ≤ w
  pub formed : (booleans : List Bool) → length booleans ≡ n → K booleans → AreFormed booleans xs
