-- What the shape of a form says of its fields.
use Rattle.std.proofs.Common.{◌≡◌, ℕ, ◌<◌, ℤ, Bool, true, false, List, [], ◌∷◌, length, map, Ok, IsOk, ap, subst, sym, ◌∙◌, arith, refl}
use Rattle.std.specs.List.{AllByRecursion}
use Rattle.xf_num.specs.Span.{Bounds}
use Rattle.xs_expr.specs.Laws.{IsBounded}
use Rattle.xs_expr.proofs.Bounded.{values-are-bounded}
use Rattle.xs_model.specs.declared.expr.Expr.{Expr}
use Rattle.xs_model.specs.declared.instance.Constraint.{Constraint}
use Rattle.xs_model.specs.declared.instance.Constraint.TheVariants.{Intension}
use Rattle.xs_model.specs.Accepted.{IsFormed}
use Rattle.xs_model.specs.Bounds.{HasSpans, HasVariables}
use Rattle.xs_model.specs.Fields.{members}
use Rattle.xs_model.specs.Formed.{IsFormedField}
use Rattle.xs_model.specs.Spans.{AreWithin}
use Rattle.xs_model.proofs.FormLemmas.{below_of_items, formed_expression}
use Rattle.xs_testing.specs.Rows.{AreBelow}
use Rattle.xs_compared.specs.Compared.{IsFaultlessAt}

pub rows_below : (n : ℕ) (rows : List (List ℕ)) → AllByRecursion (IsFormedField n) (map members rows) → AllByRecursion (AreBelow n) rows
rows_below n [] h = tt
rows_below n (r ∷ rs) h = (below_of_items n r h.0, rows_below n rs h.1)

within_length : (ss : List Bounds) (a : List ℤ) → AreWithin ss a → length a ≡ length ss
within_length [] [] h = refl
within_length [] (x ∷ a) h = absurd h
within_length (b ∷ ss) [] h = absurd h
within_length (b ∷ ss) (x ∷ a) h = let r = within_length ss a h.1 in omega (arith, r)

pub bounded_at : (a : List ℤ) (e : Expr) → IsFormed (length a) (Intension e) → (f : IsFaultlessAt a (Intension e)) → IsBounded e a f.faultless.span
bounded_at a e formed f =
    let shape = formed_expression (length a) e formed in
    let spans : HasSpans f.spans e = subst (λ (n : ℕ). HasVariables n e) (within_length f.spans a f.within) shape.variables in
    values-are-bounded e f.spans a f.faultless.span shape.shaped spans f.within f.faultless.bounded
