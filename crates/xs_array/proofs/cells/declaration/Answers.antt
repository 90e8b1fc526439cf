use Rattle.std.proofs.Common.{◌≡◌, ℕ, Some, None, subst, sym}
use Rattle.xs_model.specs.Outline.{IsNamed}
use Rattle.xs_var.proofs.LikeLemmas.{absent, at_place, present}
use Rattle.xs_array.proofs.cells.declaration.Goals as goal

pub returns-in-Some : goal.returns-in-Some
returns-in-Some c =
    let ds = c.args.decls.now in
    let name = c.args.name.now in
    let at : ℕ = c.in-Some.at in
    let found = subst (λ os. IsNamed os at name) c.requires c.in-Some.ensures.found in
    let stands = at_place ds name at c.index-decls-at.result found c.index-decls-at.is in
    sym (present ds name at c.index-decls-at.result stands.0 stands.1 (λ k g. let same : Some at ≡ Some k = c.in-Some.ensures.only k (subst (λ os. IsNamed os k name) (sym c.requires) g) in cc))

pub returns-in-None : goal.returns-in-None
returns-in-None c = sym (absent c.args.decls.now c.args.name.now (λ k g. let same : None ≡ Some k = c.in-None.ensures.only k (subst (λ os. IsNamed os k c.args.name.now) (sym c.requires) g) in cc))
