-- The layout of a model: one item per line, first the variables, then the output arrays, the calls and the goal
-- (MiniZinc Handbook, "FlatZinc grammar").
use Rattle.std.specs.Prelude.{ℕ, ◌-◌, ℤ, pos, ◌+ℤ◌, Option, Some, None, List, [], ◌∷◌, ◌++◌, Bool as Truth, true, false, if◌then◌else◌, zero, suc, length, nat_lt, map, codes, slice_index_or}
use Rattle.std.specs.List.{flat_map}
use Rattle.std.specs.Int.{int_gap}
use Rattle.std.specs.Fmt.{decimal, signed_decimal}
use Rattle.xf_num.specs.Span.{Bounds}
use Rattle.fz_model.specs.declared.builtin.Builtin.{Builtin}
use Rattle.fz_model.specs.Builtins.{name_of}
use Rattle.fz_model.specs.declared.model.Arg.{Arg}
use Rattle.fz_model.specs.declared.model.Arg.TheOpen.{Arg-F}
use Rattle.fz_model.specs.declared.model.Arg.TheFolds.{fold-Arg}
use Rattle.fz_model.specs.declared.model.Call.{Call}
use Rattle.fz_model.specs.declared.model.FzVar.{FzVar}
use Rattle.fz_model.specs.declared.model.Goal.{Goal}
use Rattle.fz_model.specs.declared.model.Goal.TheVariants.{Satisfy, Minimize, Maximize}
use Rattle.fz_model.specs.declared.model.Model.{Model}
use Rattle.fz_model.specs.declared.model.Output.{Output}

-- each text behind a comma
abbrev pub commas : List (List ℕ) → List ℕ
commas ts = flat_map (λ t. 44 ∷ t) ts

-- the texts with commas between them
abbrev pub listed : List (List ℕ) → List ℕ
listed [] = []
listed (t ∷ ts) = t ++ commas ts

-- n integers from z on
abbrev pub integers_from : ℤ → ℕ → List ℤ
integers_from z zero = []
integers_from z (suc n) = z ∷ integers_from (z +ℤ pos 1) n

-- the integers of a range, ascending
abbrev pub integers_of : Bounds → List ℤ
integers_of b = b.lo ∷ integers_from (b.lo +ℤ pos 1) (int_gap b.lo b.hi)

abbrev pub numbers : List ℤ → List (List ℕ)
numbers zs = map signed_decimal zs

abbrev pub range_text : Bounds → List ℕ
range_text b = signed_decimal b.lo ++ (codes ".." ++ signed_decimal b.hi)

abbrev pub set_text : List ℤ → List ℕ
set_text zs = codes "{" ++ (listed (numbers zs) ++ codes "}")

-- a domain: a range where it is one, else the set of its members
abbrev pub domain_text : List Bounds → List ℕ
domain_text [] = set_text []
domain_text (b ∷ []) = range_text b
domain_text (b ∷ c ∷ bs) = set_text (integers_of b ++ flat_map integers_of (c ∷ bs))

abbrev pub type_text : Truth → List Bounds → List ℕ
type_text true domain = codes "bool"
type_text false domain = domain_text domain

abbrev pub shown_text : Truth → List ℕ
shown_text true = codes " :: output_var"
shown_text false = []

-- the name of variable k: that of the list, or past its end `a_` and how far past it
abbrev pub name_at : List (List ℕ) → ℕ → List ℕ
name_at names k = if nat_lt k (length names) then slice_index_or names k [] else codes "a_" ++ decimal (k - length names)

abbrev pub truth_text : Truth → List ℕ
truth_text true = codes "true"
truth_text false = codes "false"

-- an argument, with the texts of its members in their place
abbrev pub arg_step : List (List ℕ) → Arg-F (List ℕ) → List ℕ
arg_step names (Arg-F.Int z) = signed_decimal z
arg_step names (Arg-F.Bool t) = truth_text t
arg_step names (Arg-F.Var k) = name_at names k
arg_step names (Arg-F.Range s) = range_text s
arg_step names (Arg-F.Set zs) = set_text zs
arg_step names (Arg-F.List ts) = codes "[" ++ (listed ts ++ codes "]")

abbrev pub arg_text : List (List ℕ) → Arg → List ℕ
arg_text names = fold-Arg (List ℕ) (arg_step names)

-- what a variable is declared to equal
abbrev pub equal_text : List (List ℕ) → Option Arg → List ℕ
equal_text names None = []
equal_text names (Some a) = codes " = " ++ arg_text names a

-- the line of a variable; only what it is declared to equal has names in it
abbrev pub var_line : List (List ℕ) → FzVar → List ℕ
var_line names v = codes "var " ++ (type_text v.boolean v.domain ++ (codes ": " ++ (v.name ++ (shown_text v.shown ++ (equal_text names v.equal ++ codes ";\n")))))

abbrev pub member_text : Truth → List ℕ
member_text true = codes "bool"
member_text false = codes "int"

-- the length of an array, the type of its members and its name
unfoldable pub output_head : Output → List ℕ
output_head o = codes "array [1.." ++ (decimal (length o.members) ++ (codes "] of var " ++ (member_text o.boolean ++ (codes ": " ++ o.name))))

-- the ranges of its indices
unfoldable pub dims_head : List ℕ
dims_head = codes " :: output_array(["

abbrev pub dims_text : List Bounds → List ℕ
dims_text dims = dims_head ++ (listed (map range_text dims) ++ codes "])")

-- the line of an output array
unfoldable pub output_line : List (List ℕ) → Output → List ℕ
output_line names o = output_head o ++ (dims_text o.dims ++ (codes " = [" ++ (listed (map (arg_text names) o.members) ++ codes "];\n")))

unfoldable pub call_head : Builtin → List ℕ
call_head b = codes "constraint " ++ name_of b

-- the line of a call
abbrev pub call_line : List (List ℕ) → Call → List ℕ
call_line names c = call_head c.builtin ++ (codes "(" ++ (listed (map (arg_text names) c.args) ++ codes ");\n"))

abbrev pub goal_text : List (List ℕ) → Goal → List ℕ
goal_text names Satisfy = codes "satisfy"
goal_text names (Minimize k) = codes "minimize " ++ name_at names k
goal_text names (Maximize k) = codes "maximize " ++ name_at names k

-- the line of the goal
abbrev pub goal_line : List (List ℕ) → Goal → List ℕ
goal_line names goal = codes "solve " ++ (goal_text names goal ++ codes ";\n")

abbrev pub names_of : List FzVar → List (List ℕ)
names_of vs = map (λ (v : FzVar). v.name) vs

-- all lines of a model
abbrev pub layout : Model → List ℕ
layout m =
    let names : List (List ℕ) = names_of m.vars in
    flat_map (var_line names) m.vars ++ (flat_map (output_line names) m.outputs ++ (flat_map (call_line names) m.calls ++ goal_line names m.goal))
