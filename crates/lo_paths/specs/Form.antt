-- What an automaton or a diagram is lowered to, by its form (XCSP3-core, "Constraint regular" and "Constraint mdd").
use Rattle.std.specs.Prelude.{ℕ, Bool, true, false, List, []}
use Rattle.xs_model.specs.declared.instance.Constraint.{Constraint}
use Rattle.xs_model.specs.declared.instance.Constraint.TheVariants.{Regular, Mdd}
use Rattle.lo_base.specs.Item.{Item}
use Rattle.lo_paths.specs.Path.{low_regular, low_mdd}

-- an automaton or a diagram
abbrev pub is_path : Constraint → Bool
is_path (Regular list edges start finals) = true
is_path (Mdd list edges root leaf) = true
is_path c = false

abbrev pub low_path : ℕ → Constraint → List Item
low_path n (Regular list edges start finals) = low_regular n list edges start finals
low_path n (Mdd list edges root leaf) = low_mdd n list edges root leaf
low_path n c = []
