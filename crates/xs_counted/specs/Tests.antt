-- Tests of sorted values and of sums.
use Rattle.std.specs.Prelude.{◌≡◌, ℕ, ◌-◌, ◌<◌, ◌≤◌, ℤ, pos, int_le, int_lt, nat_abs, nat_eq, nat_le, List, [], ◌∷◌, length, map, Bool, true, false, ◌&&◌}
use Rattle.std.specs.Ordering.{int_eq}
use Rattle.xs_laws.specs.Meeting.{is_within}
use Rattle.xs_model.specs.declared.term.Occurrence.{Occurrence}
use Rattle.xs_model.specs.declared.term.Occurrence.TheVariants.{Term, Span}
use Rattle.xs_model.specs.Conditions.{value_of}
use Rattle.xs_model.specs.Counting.{products}
use Rattle.xs_model.specs.Formed.{total}
use Rattle.xs_model.specs.Lists.{how_often}
use Rattle.xs_model.specs.Value.{at}

-- y is less than v, or where v itself is passed, at most v
abbrev pub precedes : Bool → ℤ → ℤ → Bool
precedes true v y = int_le y v
precedes false v y = int_lt y v

-- the first k values precede v, and no others
pub record IsCut (past : Bool) (v : ℤ) (ys : List ℤ) (k : ℕ) : Type 0 where
  pub fits : k ≤ length ys
  pub before : (j : ℕ) → j < k → precedes past v (at ys j) ≡ true
  pub behind : (j : ℕ) → k ≤ j → j < length ys → precedes past v (at ys j) ≡ false

-- a number of occurrences is as is said
abbrev pub is_said : List ℤ → Occurrence → ℕ → Bool
is_said a (Term t) n = int_eq (pos n) (value_of a t)
is_said a (Span b) n = is_within b (pos n)

-- each value occurs as often as is said of it
abbrev pub are_said : List ℤ → List ℤ → List Occurrence → List ℤ → Bool
are_said a [] [] xs = true
are_said a [] (o ∷ os) xs = false
are_said a (v ∷ vs) [] xs = false
are_said a (v ∷ vs) (o ∷ os) xs = is_said a o (how_often v xs) && are_said a vs os xs

-- the values occur so often in all
abbrev pub fills : ℕ → List ℤ → List ℤ → Bool
fills left [] xs = nat_eq left 0
fills left (v ∷ vs) xs = nat_le (how_often v xs) left && fills (left - how_often v xs) vs xs

-- as often as the list is long
abbrev pub is_full : List ℤ → List ℤ → Bool
is_full vs xs = fills (length xs) vs xs

-- the sum of the absolute values of the products
abbrev pub size_of_products : List ℤ → List ℤ → ℕ
size_of_products cs xs = total (map nat_abs (products cs xs))
