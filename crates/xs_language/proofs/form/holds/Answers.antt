use Rattle.std.proofs.Common.{◌<◌, List, ℕ, length, sym, subst}
use Rattle.std.specs.List.{AllByRecursion}
use Rattle.xs_model.specs.Accepted.{IsFormed}
use Rattle.xs_model.specs.declared.instance.Constraint.{Constraint}
use Rattle.xs_language.proofs.ShapeLemmas.{mdd_below, regular_below, table_below}
use Rattle.xs_language.proofs.form.holds.Goals as goal

pub holds_table-requires-clause-valued : goal.holds_table-requires-clause-valued
holds_table-requires-clause-valued c =
    let n = length c.args.a.now in
    let formed = subst (λ (x : Constraint). IsFormed n x) c.in-Extension.is c.requires.formed in
    subst (λ (vs : List ℕ). AllByRecursion (λ v. v < n) vs) (sym c.as_slice.ensures) (table_below n c.in-Extension.list c.in-Extension.tuples c.in-Extension.positive formed)

pub holds_regular-requires-clause-valued : goal.holds_regular-requires-clause-valued
holds_regular-requires-clause-valued c =
    let n = length c.args.a.now in
    let formed = subst (λ (x : Constraint). IsFormed n x) c.in-Regular.is c.requires.formed in
    subst (λ (vs : List ℕ). AllByRecursion (λ v. v < n) vs) (sym c.as_slice-in-Regular.ensures) (regular_below n c.in-Regular.list c.in-Regular.edges c.in-Regular.start c.in-Regular.finals formed)

pub holds_mdd-requires-clause-valued : goal.holds_mdd-requires-clause-valued
holds_mdd-requires-clause-valued c =
    let n = length c.args.a.now in
    let formed = subst (λ (x : Constraint). IsFormed n x) c.in-Mdd.is c.requires.formed in
    subst (λ (vs : List ℕ). AllByRecursion (λ v. v < n) vs) (sym c.as_slice-in-Mdd.ensures) (mdd_below n c.in-Mdd.list c.in-Mdd.edges c.in-Mdd.root c.in-Mdd.leaf formed)
