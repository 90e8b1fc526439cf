use Rattle.std.proofs.Common.{◌<◌, ◌^◌, sym, subst, ◌∙◌}
use Rattle.std.specs.Option.{option_map}
use Rattle.std.proofs.lemmas.Option.{IfSome_then}
use Rattle.xs_fields.specs.Words.{is_byte, parts_behind}
use Rattle.xs_fields.proofs.FoundLemmas.{one_variable}
use Rattle.xs_model.specs.Sound.{cell_count}
use Rattle.xs_fields.proofs.direct.direct_variable.Goals as goal

pub returns-in-Some-clause-missed : goal.returns-in-Some-clause-missed
returns-in-Some-clause-missed c =
    let more = parts_behind (is_byte 91) (option_map (λ x. x.now) c.cut.result.1) in
    IfSome_then c.find.result c.find.ensures.found
    (λ k d. (one_variable c.args.names.now c.in-Some.ensures.sound c.args.word.now c.cut.result.0.now more c.in-Some.at k c.cut.ensures.value
    (λ i h. sym c.in-Some.is ∙ c.position.ensures.only i h) (subst (λ ns. cell_count ns < 2 ^ 64) c.sizes-sizes.ensures.value c.sizes-sizes.ensures.few) d).met)

pub returns-in-Some-clause-value : goal.returns-in-Some-clause-value
returns-in-Some-clause-value c =
    let more = parts_behind (is_byte 91) (option_map (λ x. x.now) c.cut.result.1) in
    IfSome_then c.find.result c.find.ensures.found
    (λ k d. (one_variable c.args.names.now c.in-Some.ensures.sound c.args.word.now c.cut.result.0.now more c.in-Some.at k c.cut.ensures.value
    (λ i h. sym c.in-Some.is ∙ c.position.ensures.only i h) (subst (λ ns. cell_count ns < 2 ^ 64) c.sizes-sizes.ensures.value c.sizes-sizes.ensures.few) d).is)

pub returns-in-Some-clause-indices : goal.returns-in-Some-clause-indices
returns-in-Some-clause-indices c =
    let more = parts_behind (is_byte 91) (option_map (λ x. x.now) c.cut.result.1) in
    IfSome_then c.find.result c.find.ensures.found
    (λ k d. (one_variable c.args.names.now c.in-Some.ensures.sound c.args.word.now c.cut.result.0.now more c.in-Some.at k c.cut.ensures.value
    (λ i h. sym c.in-Some.is ∙ c.position.ensures.only i h) (subst (λ ns. cell_count ns < 2 ^ 64) c.sizes-sizes.ensures.value c.sizes-sizes.ensures.few) d).indices)
