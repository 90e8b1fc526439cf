-- The FlatZinc variables of declarations.
use Rattle.std.specs.Prelude.{◌≡◌, true, false, None, List, [], ◌∷◌, ℕ, map}
use Rattle.std.specs.List.{AllByRecursion}
use Rattle.xf_num.specs.Span.{Bounds}
use Rattle.xs_model.specs.declared.decl.Decl.{Decl}
use Rattle.xs_model.specs.Names.{words, domains}
use Rattle.xs_model.specs.Sound.{IsSoundDecl}
use Rattle.fz_model.specs.declared.model.FzVar.{FzVar}
use Rattle.lo_names.specs.Spelling.{spelled}

-- the variable of a direct word and a domain, which solvers print
abbrev pub shown_var : List ℕ → List Bounds → FzVar
shown_var word domain = record { name = spelled word; boolean = false; domain = domain; equal = None; shown = true }

-- one variable for each word and the domain beside it
abbrev pub shown_each : List (List ℕ) → List (List Bounds) → List FzVar
shown_each [] ds = []
shown_each (w ∷ ws) [] = []
shown_each (w ∷ ws) (d ∷ ds) = shown_var w d ∷ shown_each ws ds

-- the variables of the declarations, in order
abbrev pub shown_vars : List Decl → List FzVar
shown_vars decls = shown_each (words decls) (domains decls)

-- these are all variables: their names are those of the words, and their domains those of the declarations
abbrev pub ShowsAll : Type 0
ShowsAll = (decls : List Decl) → AllByRecursion IsSoundDecl decls → (map (λ (v : FzVar). v.name) (shown_vars decls) ≡ map spelled (words decls)) × (map (λ (v : FzVar). v.domain) (shown_vars decls) ≡ domains decls)
