use Rattle.std.proofs.Common.{◌≡◌, Some, None, IfOk, ℕ, Option, ap, sym, subst, ◌∙◌}
use Rattle.xs_fields.specs.Cells.{declared_at, reached_at}
use Rattle.xs_fields.proofs.NamingLemmas.{position_is}
use Rattle.xs_fields.proofs.variables.reach.Goals as goal

pub returns-in-Some : goal.returns-in-Some
returns-in-Some c =
    let os = c.args.names.now in
    let word = c.args.word.now in
    let at : Some c.in-Some.at ≡ declared_at os word.name =
    sym c.in-Some.is ∙ position_is c.position.result os c.as_slice.result.now c.position.ensures.found c.position.ensures.only ∙ ap (declared_at os) c.as_slice.ensures in
    subst (λ (o : Option ℕ). IfOk c.reach_at.result (λ r. r ≡ reached_at os word o)) at c.reach_at.ensures

pub returns-in-None : goal.returns-in-None
returns-in-None c =
    let os = c.args.names.now in
    let word = c.args.word.now in
    let at : None ≡ declared_at os word.name =
    sym c.in-None.is ∙ position_is c.position.result os c.as_slice.result.now c.position.ensures.found c.position.ensures.only ∙ ap (declared_at os) c.as_slice.ensures in
    ap (reached_at os word) at
