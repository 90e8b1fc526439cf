-- What a table is lowered to, by its form (XCSP3-core, "Constraint extension").
use Rattle.std.specs.Prelude.{ℕ, Bool, true, false, List, []}
use Rattle.xs_model.specs.declared.instance.Constraint.{Constraint}
use Rattle.xs_model.specs.declared.instance.Constraint.TheVariants.{Extension, Unary}
use Rattle.lo_base.specs.Item.{Item}
use Rattle.lo_tables.specs.Table.{low_extension}
use Rattle.lo_tables.specs.Unary.{low_unary}

-- a table of tuples or of the values of one variable
abbrev pub is_table : Constraint → Bool
is_table (Extension list tuples positive) = true
is_table (Unary v spans positive) = true
is_table c = false

abbrev pub low_table : ℕ → Constraint → List Item
low_table n (Extension list tuples positive) = low_extension n list tuples positive
low_table n (Unary v spans positive) = low_unary n v spans positive
low_table n c = []
