-- The declarations of an instance (XCSP3-core, "Variables" and "Arrays of variables"): the units of `variables`, and
-- what they declare.
use Rattle.std.specs.Prelude.{◌≡◌, ◌≢◌, ◌≤◌, List, [], ◌∷◌, map, sum, if◌then◌else◌, Result, Ok, Err, codes, AllPairs}
use Rattle.std.specs.List.{AllByRecursion}
use Rattle.std.specs.Str.{bytes_eq}
use Rattle.xf_markup.specs.declared.tree.Node.{Node}
use Rattle.xf_text.specs.declared.fault.Fault.{Fault}
use Rattle.xs_array.specs.ArrayUnit.{array_unit}
use Rattle.xs_model.specs.declared.decl.Decl.{Decl}
use Rattle.xs_model.specs.Names.{domains}
use Rattle.xs_model.specs.Sound.{IsSoundDecl, cells_of, most_cells, most_items, names_of, values_of}
use Rattle.xs_var.specs.Container.{variables_meet}
use Rattle.xs_var.specs.Elements.{children_of}
use Rattle.xs_var.specs.Units.{UnitOf, outcome, unjudged}
use Rattle.xs_var.specs.VarUnit.{Declared, var_unit}
use Rattle.xs_vars.specs.declared.declarations.Declarations.{Declarations}

-- a child of `variables` is a `var` or an `array`
abbrev pub child_unit : Node → UnitOf Declared
child_unit n = if bytes_eq n.name (codes "var") then var_unit n else array_unit n

-- `variables` itself declares nothing
abbrev pub variables_unit : Node → UnitOf Declared
variables_unit n = record { place = n.place; meets = λ s. variables_meet n; judged = unjudged; behind = λ s. s }

-- the units of `variables`, in document order
abbrev pub units_of : Node → List (UnitOf Declared)
units_of n = variables_unit n ∷ map child_unit (children_of n.pieces)

abbrev pub nothing : Declared
nothing = record { decls = []; cells = 0; values = 0 }

-- what `variables` declares, or the fault of the first unit that misses a condition
abbrev pub variables_outcome : Node → Result Declared Fault
variables_outcome n = outcome nothing (units_of n)

abbrev pub declared_of : Declarations → Declared
declared_of d = record { decls = d.decls; cells = d.cells; values = d.values }

-- the declarations alone
abbrev pub decls_in : Result Declared Fault → Result (List Decl) Fault
decls_in (Ok s) = Ok s.decls
decls_in (Err fault) = Err fault

-- sound declarations of different names, and what is counted of them
pub record IsSoundDeclared (s : Declared) : Type 0 where
  pub distinct : AllPairs (λ a b. a ≢ b) (names_of s.decls)
  pub decls : AllByRecursion IsSoundDecl s.decls
  pub cells : s.cells ≡ sum (map cells_of s.decls)
  pub values : s.values ≡ sum (map values_of (domains s.decls))
  pub few_cells : s.cells ≤ most_cells
  pub few_values : s.values ≤ most_items

-- sound declarations of different names, whose counts are within the limits
pub record AreSound (ds : List Decl) : Type 0 where
  pub distinct : AllPairs (λ a b. a ≢ b) (names_of ds)
  pub decls : AllByRecursion IsSoundDecl ds
  pub few_cells : sum (map cells_of ds) ≤ most_cells
  pub few_values : sum (map values_of (domains ds)) ≤ most_items
