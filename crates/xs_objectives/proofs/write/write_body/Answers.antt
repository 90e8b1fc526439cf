use Rattle.std.proofs.Common.{◌<◌, List, ℕ, length, sym, subst}
use Rattle.std.specs.List.{AllByRecursion}
use Rattle.xs_model.proofs.FormLemmas.{below_of_items}
use Rattle.xs_model.specs.Fields.{body_fields}
use Rattle.xs_model.specs.Formed.{AreFormed}
use Rattle.xs_model.specs.Names.{words}
use Rattle.xs_model.specs.declared.instance.Body.{Body}
use Rattle.xs_objectives.proofs.write.write_body.Goals as goal

pub write_vars-requires-clause-declared : goal.write_vars-requires-clause-declared
write_vars-requires-clause-declared c =
    let n = length (words c.args.decls.now) in
    let formed = subst (λ (b : Body). AreFormed n (body_fields b)) c.in-Least.is c.requires.formed in
    subst (λ (vs : List ℕ). AllByRecursion (λ v. v < n) vs) (sym c.as_slice-in-Least.ensures) (below_of_items n c.in-Least.list formed.0)

pub write_vars-requires-in-Greatest-clause-declared : goal.write_vars-requires-in-Greatest-clause-declared
write_vars-requires-in-Greatest-clause-declared c =
    let n = length (words c.args.decls.now) in
    let formed = subst (λ (b : Body). AreFormed n (body_fields b)) c.in-Greatest.is c.requires.formed in
    subst (λ (vs : List ℕ). AllByRecursion (λ v. v < n) vs) (sym c.as_slice-in-Greatest.ensures) (below_of_items n c.in-Greatest.list formed.0)

pub write_vars-requires-in-Distinct-clause-declared : goal.write_vars-requires-in-Distinct-clause-declared
write_vars-requires-in-Distinct-clause-declared c =
    let n = length (words c.args.decls.now) in
    let formed = subst (λ (b : Body). AreFormed n (body_fields b)) c.in-Distinct.is c.requires.formed in
    subst (λ (vs : List ℕ). AllByRecursion (λ v. v < n) vs) (sym c.as_slice-in-Distinct.ensures) (below_of_items n c.in-Distinct.list formed.0)
