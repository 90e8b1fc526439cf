-- The unit of a `var` (XCSP3-core, "Variables"): its conditions, and the declaration that it makes.
use Rattle.std.specs.Prelude.{ℕ, ◌+◌, Bool, ◌&&◌, List, [], ◌∷◌, ◌++◌, Option, None, Some, codes}
use Rattle.xf_markup.specs.declared.tree.Node.{Node}
use Rattle.xf_num.specs.Span.{Bounds}
use Rattle.xs_fields.specs.declared.condition.Condition.{Condition}
use Rattle.xs_model.specs.declared.decl.Decl.{Decl}
use Rattle.xs_model.specs.declared.decl.Decl.TheVariants.{One}
use Rattle.xs_model.specs.Sound.{names_of, values_of}
use Rattle.xs_var.specs.Elements.{text_in, value_in}
use Rattle.xs_var.specs.Units.{UnitOf, unjudged}
use Rattle.xs_var.specs.VarDomain.{counts_meet, var_domain}
use Rattle.xs_var.specs.Variable.{names_meet, var_fields_meet}

-- what is declared before a unit, and how many cells and values of domains are counted
pub record Declared : Type 0 where
  pub decls : List Decl
  pub cells : ℕ
  pub values : ℕ

-- the domain of a `var`
abbrev pub domain_for : List Decl → Node → Option (List Bounds)
domain_for ds n = var_domain ds (value_in (codes "as") n.attrs) (text_in n.pieces)

-- what a `var` meets
abbrev pub var_meets : Declared → Node → Condition → Bool
var_meets s n k = var_fields_meet n k && (names_meet (names_of s.decls) n k && counts_meet s.cells s.values (domain_for s.decls n) k)

-- with one variable more, where it has a name and a domain
abbrev pub with_one : Declared → Option (List ℕ) → Option (List Bounds) → Declared
with_one s None d = s
with_one s (Some name) None = s
with_one s (Some name) (Some d) = record { decls = s.decls ++ One name d ∷ []; cells = s.cells + 1; values = s.values + values_of d }

abbrev pub var_unit : Node → UnitOf Declared
var_unit n = record { place = n.place; meets = λ s. var_meets s n; judged = unjudged; behind = λ s. with_one s (value_in (codes "id") n.attrs) (domain_for s.decls n) }

-- the declaration of a variable of this name
abbrev pub one_decl : Option (List ℕ) → List Bounds → Option Decl
one_decl None d = None
one_decl (Some name) d = Some (One name d)
