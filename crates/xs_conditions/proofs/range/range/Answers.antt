use Rattle.std.proofs.Common.{Some, ap, sym, ◌∙◌, FitsSigned, to_z, of_z, to_z-of_z, rules}
use Rattle.std.specs.Int.{w128}
use Rattle.xs_fields.specs.Conditions.{judged}
use Rattle.xs_fields.specs.Integers.{integer_of}
use Rattle.xs_fields.specs.Lists.{has_small_ends, range_of}
use Rattle.xs_fields.proofs.IntegerLemmas.{integer_small}
use Rattle.xs_conditions.proofs.range.range.Goals as goal

pub returns-in-Some-Some : goal.returns-in-Some-Some
returns-in-Some-Some c =
    let low = integer_small c.args.low.now c.in-Some-Some.low (sym c.is_integer.ensures ∙ c.if-not-is_integer.false) c.in-Some-Some.ensures in
    let high = integer_small c.args.high.now c.in-Some-Some.high (sym c.is_integer-else-not-is_integer.ensures ∙ c.if-not-is_integer-2.false) c.in-Some-Some.ensures' in
    let low_fits : FitsSigned w128 c.in-Some-Some.low = search rules in
    let high_fits : FitsSigned w128 c.in-Some-Some.high = search rules in
    c.ordered.ensures
    ∙ ap (λ a. judged has_small_ends (range_of (Some a) (Some (to_z w128 (of_z w128 c.in-Some-Some.high))))) (to_z-of_z low_fits)
    ∙ ap (λ b. judged has_small_ends (range_of (Some c.in-Some-Some.low) (Some b))) (to_z-of_z high_fits)
    ∙ ap (λ b. judged has_small_ends (range_of (Some c.in-Some-Some.low) b)) (sym high)
    ∙ ap (λ a. judged has_small_ends (range_of a (integer_of c.args.high.now))) (sym low)
