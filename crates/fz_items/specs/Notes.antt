-- Annotations: their integers, and the two that are kept, `output_var` and `output_array([a..b,..])` with one range for
-- each dimension (MiniZinc Handbook, "FlatZinc", output).
use Rattle.std.specs.Prelude.{Bool, true, false, ◌&&◌, int_le, List, [], ◌∷◌, map, codes, Option, None, Some, if◌then◌else◌}
use Rattle.std.specs.List.{list_all}
use Rattle.std.specs.Option.{option_map}
use Rattle.std.specs.Str.{bytes_eq}
use Rattle.xf_num.specs.Span.{Bounds}
use Rattle.fz_grammar.specs.declared.tree.Note.{Note}
use Rattle.fz_grammar.specs.declared.tree.Expr.{Expr, out-Expr}
use Rattle.fz_grammar.specs.declared.tree.Expr.TheOpen.{Expr-F}
use Rattle.fz_values.specs.Integers.{int_of}
use Rattle.fz_values.specs.Values.{are_small}

abbrev pub args_small : Option (List Expr) → Bool
args_small None = true
args_small (Some xs) = list_all (λ b. b) (map are_small xs)

-- each integer of the annotations is small
abbrev pub notes_small : List Note → Bool
notes_small ns = list_all (λ (n : Note). args_small n.args) ns

abbrev pub is_bare : Option (List Expr) → Bool
is_bare None = true
is_bare (Some xs) = false

-- `output_var` alone
abbrev pub is_output_var : Note → Bool
is_output_var n = bytes_eq n.name (codes "output_var") && is_bare n.args

abbrev pub is_shown : List Note → Bool
is_shown [] = false
is_shown (n ∷ ns) = if is_output_var n then true else is_shown ns

-- the range, where it is one from a lesser to a greater integer
abbrev pub span_step : Expr-F Expr → Option Bounds
span_step (Expr-F.Range a b) = if int_le (int_of a) (int_of b) then Some (record { lo = int_of a; hi = int_of b }) else None
span_step _ = None

abbrev pub onto : Option Bounds → Option (List Bounds) → Option (List Bounds)
onto None rest = None
onto (Some s) rest = option_map (λ ss. s ∷ ss) rest

-- the ranges, where each is one
abbrev pub spans_of : List Expr → Option (List Bounds)
spans_of [] = Some []
spans_of (x ∷ xs) = onto (span_step (out-Expr x)) (spans_of xs)

-- at least one range
abbrev pub dims_step : Expr-F Expr → Option (List Bounds)
dims_step (Expr-F.List []) = None
dims_step (Expr-F.List (x ∷ xs)) = spans_of (x ∷ xs)
dims_step _ = None

abbrev pub dims_in : Option (List Expr) → Option (List Bounds)
dims_in (Some (x ∷ [])) = dims_step (out-Expr x)
dims_in _ = None

abbrev pub dims_of : Note → Option (List Bounds)
dims_of n = if bytes_eq n.name (codes "output_array") then dims_in n.args else None

abbrev pub or_else : Option (List Bounds) → Option (List Bounds) → Option (List Bounds)
or_else (Some d) later = Some d
or_else None later = later

-- the dimensions by which an array is shown: of two annotations the first counts
abbrev pub shown_as : List Note → Option (List Bounds)
shown_as [] = None
shown_as (n ∷ ns) = or_else (dims_of n) (shown_as ns)
