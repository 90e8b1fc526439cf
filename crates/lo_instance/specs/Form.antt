-- What constraints are lowered to, where ss are the bounds of the variables and n is the number of the next one (the
-- forms of XCSP3-core; MiniZinc Handbook, "FlatZinc builtins").
use Rattle.std.specs.Prelude.{ℕ, ◌+◌, List, [], ◌∷◌, ◌++◌, map}
use Rattle.xf_num.specs.Span.{Bounds}
use Rattle.xs_model.specs.declared.instance.Constraint.{Constraint}
use Rattle.xs_model.specs.declared.instance.Constraint.TheVariants.{Intension, Extension, Unary, Regular, Mdd, AllDifferent}
use Rattle.lo_base.specs.Item.{Item, made}
use Rattle.lo_emit.specs.declared.term.Term.TheVariants.{Var}
use Rattle.lo_forms.specs.Different.{low_different}
use Rattle.lo_paths.specs.Path.{low_regular, low_mdd}
use Rattle.lo_tables.specs.Table.{low_extension}
use Rattle.lo_tables.specs.Unary.{low_unary}
use Rattle.lo_terms.specs.Lowering.{low_intension}

-- a constraint, by its form
abbrev pub low_form : List Bounds → ℕ → Constraint → List Item
low_form ss n (AllDifferent list except) = low_different n (map Var list)
low_form ss n (Extension list tuples positive) = low_extension n list tuples positive
low_form ss n (Intension e) = low_intension ss n e
low_form ss n (Mdd list edges root leaf) = low_mdd n list edges root leaf
low_form ss n (Regular list edges start finals) = low_regular n list edges start finals
low_form ss n (Unary v spans positive) = low_unary n v spans positive
low_form ss n c = []

-- constraints, one after the other
abbrev pub low_all : List Bounds → ℕ → List Constraint → List Item
low_all ss n [] = []
low_all ss n (c ∷ cs) = low_form ss n c ++ low_all ss (n + made (low_form ss n c)) cs
