use Rattle.std.proofs.Common.{◌<◌, List, ℕ, length, sym, subst}
use Rattle.std.specs.List.{AllByRecursion}
use Rattle.xs_model.specs.Accepted.{IsFormed}
use Rattle.xs_model.specs.Names.{words}
use Rattle.xs_model.specs.declared.instance.Constraint.{Constraint}
use Rattle.xs_language.proofs.ShapeLemmas.{mdd_below, regular_below, table_below}
use Rattle.xs_language.proofs.write.write_form.Goals as goal

pub write_table-requires-clause-declared : goal.write_table-requires-clause-declared
write_table-requires-clause-declared c =
    let n = length (words c.args.decls.now) in
    let formed = subst (λ (x : Constraint). IsFormed n x) c.in-Extension.is c.requires.formed in
    subst (λ (vs : List ℕ). AllByRecursion (λ v. v < n) vs) (sym c.as_slice.ensures) (table_below n c.in-Extension.list c.in-Extension.tuples c.in-Extension.positive formed)

pub write_automaton-requires-clause-declared : goal.write_automaton-requires-clause-declared
write_automaton-requires-clause-declared c =
    let n = length (words c.args.decls.now) in
    let formed = subst (λ (x : Constraint). IsFormed n x) c.in-Regular.is c.requires.formed in
    subst (λ (vs : List ℕ). AllByRecursion (λ v. v < n) vs) (sym c.as_slice-in-Regular.ensures) (regular_below n c.in-Regular.list c.in-Regular.edges c.in-Regular.start c.in-Regular.finals formed)

pub write_diagram-requires-clause-declared : goal.write_diagram-requires-clause-declared
write_diagram-requires-clause-declared c =
    let n = length (words c.args.decls.now) in
    let formed = subst (λ (x : Constraint). IsFormed n x) c.in-Mdd.is c.requires.formed in
    subst (λ (vs : List ℕ). AllByRecursion (λ v. v < n) vs) (sym c.as_slice-in-Mdd.ensures) (mdd_below n c.in-Mdd.list c.in-Mdd.edges c.in-Mdd.root c.in-Mdd.leaf formed)
