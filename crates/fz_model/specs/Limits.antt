-- The limits of FlatZinc models.
use Rattle.std.specs.Prelude.{ℕ, ◌-◌, ◌^◌, ℤ, pos, neg_ℤ, ◌≤ℤ◌}
use Rattle.xf_num.specs.Span.{Bounds}
use Rattle.xf_num.specs.Limits as limits

-- the greatest magnitude of an integer
abbrev pub limit : ℕ
limit = limits.greatest_magnitude

-- the most variables of a model that is read
abbrev pub most_variables : ℕ
most_variables = limits.most_variables

-- the most leaves of calls, members of arrays and members of sets of a model that is read
abbrev pub most_leaves : ℕ
most_leaves = limits.most_items

-- every integer between the ends is at most that large
pub record IsSmall (s : Bounds) : Type 0 where
  pub from : neg_ℤ (pos limit) ≤ℤ s.lo
  pub to : s.hi ≤ℤ pos limit

abbrev pub exactly : ℤ → Bounds
exactly z = record { lo = z; hi = z }
