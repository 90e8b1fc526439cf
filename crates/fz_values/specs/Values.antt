-- What an expression stands for, where one value may stand and where an array may (MiniZinc Handbook, "FlatZinc").
use Rattle.std.specs.Prelude.{ℕ, ◌-◌, Bool, ◌&&◌, true, ℤ, pos, int_le, unsigned_abs, List, slice_get, Option, None, Some, is_some, if◌then◌else◌}
use Rattle.std.specs.List.{list_all}
use Rattle.fz_grammar.specs.declared.tree.Expr.{Expr, out-Expr, fold-Expr}
use Rattle.fz_grammar.specs.declared.tree.Expr.TheOpen.{Expr-F}
use Rattle.fz_values.specs.declared.meaning.Single.{Single}
use Rattle.fz_values.specs.declared.meaning.Single.TheVariants as single
use Rattle.fz_values.specs.declared.meaning.Sort.{Sort}
use Rattle.fz_values.specs.declared.meaning.Meaning.{Meaning}
use Rattle.fz_values.specs.declared.meaning.Meaning.TheVariants as meaning
use Rattle.fz_values.specs.declared.meaning.Found.{Found}
use Rattle.fz_values.specs.declared.meaning.Found.TheVariants.{Here, Past, Other}
use Rattle.fz_values.specs.Integers.{int_of, is_small}
use Rattle.fz_values.specs.Names.{look_up}

abbrev pub here_or : Sort → Option Single → Found
here_or s (Some x) = Here x
here_or s None = Past s

-- the member at this index of an array, which counts from 1
abbrev pub member_at : Sort → List Single → ℤ → Found
member_at s xs i = if int_le (pos 1) i then here_or s (slice_get xs (unsigned_abs i - 1)) else Past s

abbrev pub named : Option Meaning → Found
named (Some (meaning.One x)) = Here x
named _ = Other

abbrev pub indexed : ℤ → Option Meaning → Found
indexed i (Some (meaning.Array s xs)) = member_at s xs i
indexed i _ = Other

abbrev pub one_step : List (List ℕ × Meaning) → Expr-F Expr → Found
one_step names (Expr-F.Bool b) = Here (single.Bool b)
one_step names (Expr-F.Int n) = Here (single.Int (int_of n))
one_step names (Expr-F.Name w) = named (look_up names w)
one_step names (Expr-F.Index w n) = indexed (int_of n) (look_up names w)
one_step names _ = Other

-- the one value that an expression stands for
abbrev pub one_in : List (List ℕ × Meaning) → Expr → Found
one_in names x = one_step names (out-Expr x)

abbrev pub known_step : List (List ℕ × Meaning) → Expr-F Bool → Bool
known_step names (Expr-F.Name w) = is_some (look_up names w)
known_step names (Expr-F.Index w n) = is_some (look_up names w)
known_step names (Expr-F.List bs) = list_all (λ b. b) bs
known_step names (Expr-F.Call w bs) = list_all (λ b. b) bs
known_step names _ = true

-- each name in the expression is declared
abbrev pub is_known : List (List ℕ × Meaning) → Expr → Bool
is_known names = fold-Expr Bool (known_step names)

abbrev pub small_step : Expr-F Bool → Bool
small_step (Expr-F.Int n) = is_small n
small_step (Expr-F.Range a b) = is_small a && is_small b
small_step (Expr-F.Set ns) = list_all is_small ns
small_step (Expr-F.Index w n) = is_small n
small_step (Expr-F.List bs) = list_all (λ b. b) bs
small_step (Expr-F.Call w bs) = list_all (λ b. b) bs
small_step _ = true

-- the magnitude of each integer in the expression is at most 2^126 - 1
abbrev pub are_small : Expr → Bool
are_small = fold-Expr Bool small_step
