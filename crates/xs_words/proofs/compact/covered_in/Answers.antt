use Rattle.std.proofs.Common.{◌≡◌, Some, None, ap, sym, ◌∙◌}
use Rattle.xs_fields.specs.Cells.{declared_at}
use Rattle.xs_fields.proofs.NamingLemmas.{position_is}
use Rattle.xs_words.specs.Compact.{covered_at}
use Rattle.xs_words.proofs.compact.covered_in.Goals as goal

pub returns-in-Some-clause-value : goal.returns-in-Some-clause-value
returns-in-Some-clause-value c =
    let os = c.args.names.now in
    let word = c.args.word.now in
    let at : Some c.in-Some.at ≡ declared_at os word.name =
    sym c.in-Some.is ∙ position_is c.position.result os c.as_slice.result.now c.position.ensures.found c.position.ensures.only ∙ ap (declared_at os) c.as_slice.ensures in
    c.covered_at.ensures.value ∙ ap (covered_at os word) at

pub returns-in-None-clause-value : goal.returns-in-None-clause-value
returns-in-None-clause-value c =
    let os = c.args.names.now in
    let word = c.args.word.now in
    let at : None ≡ declared_at os word.name =
    sym c.in-None.is ∙ position_is c.position.result os c.as_slice.result.now c.position.ensures.found c.position.ensures.only ∙ ap (declared_at os) c.as_slice.ensures in
    ap (covered_at os word) at
