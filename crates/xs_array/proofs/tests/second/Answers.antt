use Rattle.std.proofs.Common.{◌≡◌, ◌+◌, ◌<◌, ◌≤◌, List, [], ◌∷◌, length, map, is_some, Option, None, Some, Result, IfOk, subst, ap, arith}
use Rattle.xf_num.specs.Span.{Bounds}
use Rattle.xs_fields.specs.declared.condition.Condition.{Condition}
use Rattle.xs_model.specs.declared.decl.Decl.{Decl}
use Rattle.xs_model.specs.declared.decl.Decl.TheVariants.{One, Array}
use Rattle.xs_model.specs.Outline.{Outline, defined_count, outline_of, variables_in}
use Rattle.xs_model.specs.Sound.{cells_of}
use Rattle.xs_var.specs.declared.counted.Counted.{Counted}
use Rattle.xs_var.specs.Taken.{IsSoundTaken}
use Rattle.xs_var.specs.VarUnit.{Declared}
use Rattle.xs_array.proofs.tests.second.Goals as goal

some_of : (cells : List (Option (List Bounds))) → defined_count (map is_some cells) ≤ length cells
some_of [] = omega arith
some_of (None ∷ cells) = omega (arith, some_of cells)
some_of (Some d ∷ cells) = omega (arith, some_of cells)

variables_few : (d : Decl) → defined_count (outline_of d).cells ≤ cells_of d
variables_few (One name domain) = omega arith
variables_few (Array name sizes cells) = some_of cells

first_few : (s : Declared) (c : Counted) (os : List Outline) → os ≡ [] → IsSoundTaken s c → variables_in os + defined_count (outline_of c.decl).cells < 4294967296
first_few s c os none sound = omega (arith, ap variables_in none, variables_few c.decl, sound.cells, sound.few_cells)

pub declare-added-requires-clause-few : goal.declare-added-requires-clause-few
declare-added-requires-clause-few c =
    let s : Declared = record { decls = []; cells = 0; values = 0 } in
    first_few s c.in-Ok.counted c.new-names.result c.new-names.ensures (subst (λ (r : Result Counted Condition). IfOk r (λ x. IsSoundTaken s x)) c.in-Ok.is c.in_ok-first.ensures)
