-- An expression that misses nothing is one that an instance may hold.
use Rattle.std.proofs.Common.{◌≡◌, List, None}
use Rattle.xs_fields.specs.Conditions.{first_missed}
use Rattle.xs_model.specs.Formed.{IsFormedExpr}
use Rattle.xs_model.specs.Outline.{Outline, variables_in}
use Rattle.xs_notation.specs.Reading.{expr_of, tree_meets}
use Rattle.xs_notation.specs.declared.raw.Raw.{Raw}
use Rattle.xs_notation.proofs.ShapeLemmas.{no-set-expr, shaped-expr}
use Rattle.xs_notation.proofs.SmallLemmas.{small-expr}
use Rattle.xs_notation.proofs.WithinLemmas.{within-expr}

pub formed-expr : (os : List Outline) (r : Raw) → first_missed (tree_meets os r) ≡ None → IsFormedExpr (variables_in os) (expr_of os r)
formed-expr os r h = record { shaped = shaped-expr os r h; no_set = no-set-expr os r h; variables = within-expr os r; small = small-expr os r }
