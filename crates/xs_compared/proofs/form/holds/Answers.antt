use Rattle.std.proofs.Common.{◌≡◌, ◌<◌, List, ℕ, length, sym, subst}
use Rattle.std.specs.List.{AllByRecursion}
use Rattle.xs_model.specs.Accepted.{IsFormed}
use Rattle.xs_model.specs.declared.expr.Expr.{Expr}
use Rattle.xs_model.specs.declared.instance.Constraint.{Constraint}
use Rattle.xs_model.proofs.FormLemmas.{below_of_items, formed_expression}
use Rattle.xs_testing.specs.Rows.{AreBelow}
use Rattle.xs_compared.specs.Compared.{IsFaultlessAt}
use Rattle.xs_compared.proofs.ShapeLemmas.{bounded_at, rows_below}
use Rattle.xs_compared.proofs.form.holds.Goals as goal

pub holds_expression-requires-clause-shaped : goal.holds_expression-requires-clause-shaped
holds_expression-requires-clause-shaped c =
    let n = length c.args.a.now in
    let formed = subst (λ (x : Constraint). IsFormed n x) c.in-Intension.is c.requires.formed in
    (formed_expression n c.in-Intension.expr formed).shaped

pub holds_expression-requires-clause-variables : goal.holds_expression-requires-clause-variables
holds_expression-requires-clause-variables c =
    let n = length c.args.a.now in
    let formed = subst (λ (x : Constraint). IsFormed n x) c.in-Intension.is c.requires.formed in
    let faultless = subst (λ (x : Constraint). IsFaultlessAt c.args.a.now x) c.in-Intension.is c.requires.faultless in
    (bounded_at c.args.a.now c.in-Intension.expr formed faultless).variables

pub holds_expression-requires-clause-bounded : goal.holds_expression-requires-clause-bounded
holds_expression-requires-clause-bounded c =
    let n = length c.args.a.now in
    let formed = subst (λ (x : Constraint). IsFormed n x) c.in-Intension.is c.requires.formed in
    let faultless = subst (λ (x : Constraint). IsFaultlessAt c.args.a.now x) c.in-Intension.is c.requires.faultless in
    (bounded_at c.args.a.now c.in-Intension.expr formed faultless).alone

pub holds_different-requires-clause-valued : goal.holds_different-requires-clause-valued
holds_different-requires-clause-valued c =
    let n = length c.args.a.now in
    let formed = subst (λ (x : Constraint). IsFormed n x) c.in-AllDifferent.is c.requires.formed in
    subst (λ (vs : List ℕ). AreBelow n vs) (sym c.as_slice.ensures) (below_of_items n c.in-AllDifferent.list formed.fields.0)

pub holds_different_lists-requires : goal.holds_different_lists-requires
holds_different_lists-requires c =
    let n = length c.args.a.now in
    let formed = subst (λ (x : Constraint). IsFormed n x) c.in-DifferentLists.is c.requires.formed in
    subst (λ (rows : List (List ℕ)). AllByRecursion (AreBelow n) rows) (sym c.as_slice-in-DifferentLists.ensures) (rows_below n c.in-DifferentLists.lists formed.fields)

pub holds_different_matrix-requires-clause-valued : goal.holds_different_matrix-requires-clause-valued
holds_different_matrix-requires-clause-valued c =
    let n = length c.args.a.now in
    let formed = subst (λ (x : Constraint). IsFormed n x) c.in-DifferentMatrix.is c.requires.formed in
    subst (λ (rows : List (List ℕ)). AllByRecursion (AreBelow n) rows) (sym c.as_slice-in-DifferentMatrix.ensures) (rows_below n c.in-DifferentMatrix.rows formed.fields)

pub holds_equal-requires : goal.holds_equal-requires
holds_equal-requires c =
    let n = length c.args.a.now in
    let formed = subst (λ (x : Constraint). IsFormed n x) c.in-AllEqual.is c.requires.formed in
    subst (λ (vs : List ℕ). AreBelow n vs) (sym c.as_slice-in-AllEqual.ensures) (below_of_items n c.in-AllEqual.list formed.fields.0)

pub holds_ordered-requires-clause-valued : goal.holds_ordered-requires-clause-valued
holds_ordered-requires-clause-valued c =
    let n = length c.args.a.now in
    let formed = subst (λ (x : Constraint). IsFormed n x) c.in-Ordered.is c.requires.formed in
    subst (λ (vs : List ℕ). AreBelow n vs) (sym c.as_slice-in-Ordered.ensures) (below_of_items n c.in-Ordered.list formed.fields.0)

pub holds_lex-requires-clause-valued : goal.holds_lex-requires-clause-valued
holds_lex-requires-clause-valued c =
    let n = length c.args.a.now in
    let formed = subst (λ (x : Constraint). IsFormed n x) c.in-Lex.is c.requires.formed in
    subst (λ (rows : List (List ℕ)). AllByRecursion (AreBelow n) rows) (sym c.as_slice-in-Lex.ensures) (rows_below n c.in-Lex.lists formed.fields)

pub holds_lex_matrix-requires-clause-valued : goal.holds_lex_matrix-requires-clause-valued
holds_lex_matrix-requires-clause-valued c =
    let n = length c.args.a.now in
    let formed = subst (λ (x : Constraint). IsFormed n x) c.in-LexMatrix.is c.requires.formed in
    subst (λ (rows : List (List ℕ)). AllByRecursion (AreBelow n) rows) (sym c.as_slice-in-LexMatrix.ensures) (rows_below n c.in-LexMatrix.rows formed.fields)

pub holds_given-requires : goal.holds_given-requires
holds_given-requires c =
    let n = length c.args.a.now in
    let formed = subst (λ (x : Constraint). IsFormed n x) c.in-Instantiation.is c.requires.formed in
    subst (λ (vs : List ℕ). AreBelow n vs) (sym c.as_slice-in-Instantiation.ensures) (below_of_items n c.in-Instantiation.list formed.fields.0)
