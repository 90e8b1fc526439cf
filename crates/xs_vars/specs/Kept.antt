-- What is kept while the units of `variables` are read, one after another.
use Rattle.std.specs.Prelude.{◌≡◌, ℕ, ◌+◌, List, Option, None, Some, Result, Ok, Err}
use Rattle.xf_num.specs.Span.{Bounds}
use Rattle.xs_fields.specs.declared.condition.Condition.{Condition}
use Rattle.xs_fields.specs.declared.condition.Condition.TheVariants.{Spelling, Fitting}
use Rattle.xs_model.specs.declared.decl.Decl.{Decl}
use Rattle.xs_model.specs.Outline.{outlines_of}
use Rattle.xs_model.specs.Sound.{values_of}
use Rattle.xs_var.specs.declared.counted.Counted.{Counted}
use Rattle.xs_var.specs.VarUnit.{one_decl}
use Rattle.xs_vars.specs.Declarations.{IsSoundDeclared, declared_of}
use Rattle.xs_vars.specs.declared.declarations.Declarations.{Declarations}

-- the names are those of the declarations, which are sound
pub record IsKept (d : Declarations) : Type 0 where
  pub names : d.names ≡ outlines_of d.decls
  pub sound : IsSoundDeclared (declared_of d)

-- a declaration with the counts, where there is one
abbrev pub with_counts : Option Decl → ℕ → ℕ → Result Counted Condition
with_counts None cells values = Err Spelling
with_counts (Some d) cells values = Ok (record { decl = d; cells = cells; values = values })

-- the declaration of a `var` of this domain and name, and the counts with it
abbrev pub counted_of : ℕ → ℕ → Option (List Bounds) → Option (List ℕ) → Result Counted Condition
counted_of cells values None name = Err Fitting
counted_of cells values (Some d) name = with_counts (one_decl name d) (cells + 1) (values + values_of d)
