use Rattle.std.proofs.Common.{◌≡◌, ap, sym, subst, ◌∙◌, FitsSigned, rules, to_z-of_z}
use Rattle.std.specs.Int.{w128}
use Rattle.std.specs.Str.Parse.{signed_digits_value}
use Rattle.xf_text.specs.Number.{number_at, IsNumberAt}
use Rattle.xs_fields.specs.Integers.{number_place}
use Rattle.xs_fields.proofs.IntegerLemmas.{is_read, not_stopped}
use Rattle.xs_fields.proofs.integer.wide_value.Goals as goal

pub returns-in-Ok : goal.returns-in-Ok
returns-in-Ok c =
    let is : c.in-Ok.value ≡ signed_digits_value 10 c.args.word.now = c.in-Ok.ensures.number.1 ∙ ap (number_at c.args.word.now) c.number_place.ensures ∙ (is_read c.args.word.now c.requires).1 in
    let fits : FitsSigned w128 c.in-Ok.value = search rules in
    (subst (FitsSigned w128) is fits, to_z-of_z fits ∙ is)

pub returns-in-Err : goal.returns-in-Err
returns-in-Err c fits =
    let read = is_read c.args.word.now c.requires in
    let place : number_place c.args.word.now ≡ c.number_place.result = sym c.number_place.ensures in
    let starts : IsNumberAt c.args.word.now c.number_place.result = subst (IsNumberAt c.args.word.now) place read.0 in
    let fits_there : FitsSigned w128 (number_at c.args.word.now c.number_place.result) = subst (FitsSigned w128) (sym read.1 ∙ ap (number_at c.args.word.now) place) fits in
    not_stopped c.in-Err.field-0 (IsNumberAt c.args.word.now c.number_place.result) (FitsSigned w128 (number_at c.args.word.now c.number_place.result)) (λ k. c.in-Err.ensures.not_number.0 k) (λ k. (c.in-Err.ensures.range.0 k).1) starts fits_there
