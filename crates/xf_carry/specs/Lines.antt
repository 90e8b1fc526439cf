-- The lines of a lowered model, those of its auxiliaries and those of its calls (MiniZinc Handbook, "FlatZinc grammar").
use Rattle.std.specs.Prelude.{ℕ, List, [], ◌++◌}
use Rattle.std.specs.List.{flat_map}
use Rattle.fz_model.specs.declared.model.FzVar.{FzVar}
use Rattle.fz_model.specs.declared.model.Goal.TheVariants.{Satisfy}
use Rattle.fz_file.specs.Layout.{var_line, call_line, goal_line, names_of}
use Rattle.lo_base.specs.Item.{Item}
use Rattle.lo_base.specs.Lowered.{vars_of, calls_of}

-- of the variables that the items make, the first of which is the auxiliary k; whatever the named variables are
abbrev pub decl_lines : ℕ → ℕ → List Item → List ℕ
decl_lines named k items = flat_map (var_line []) (vars_of k items)

-- of the calls that the items post, whatever the next auxiliary is
abbrev pub call_lines : List FzVar → ℕ → List Item → List ℕ
call_lines named k items = flat_map (call_line (names_of named)) (calls_of items)

-- behind the variables: the calls, and the goal
abbrev pub end_lines : List FzVar → List Item → List ℕ
end_lines named items = call_lines named 0 items ++ goal_line (names_of named) Satisfy
