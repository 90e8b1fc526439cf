use Rattle.std.proofs.Common.{◌≡◌, ◌+ℤ◌, ◌*ℤ◌, FitsSigned, rules, ap, sym, ◌∙◌, subst, ℤ}
use Rattle.std.specs.Int.{w128}
use Rattle.xs_model.specs.Conditions.{value_of}
use Rattle.xs_model.specs.Value.{at}
use Rattle.xs_counted.proofs.SumLemmas.{product_fits, sum_fits, sum_size}
use Rattle.xs_counted.proofs.sum.plus.Goals as goal

pub product-requires : goal.product-requires
product-requires c =
    let p = value_of c.args.a.now c.args.factor *ℤ at c.args.a.now c.args.variable in
    let fits : FitsSigned w128 p = product_fits c.args.sum.value p c.requires.small in
    search rules

pub total-requires : goal.total-requires
total-requires c =
    let p = value_of c.args.a.now c.args.factor *ℤ at c.args.a.now c.args.variable in
    let fits : FitsSigned w128 (c.args.sum.value +ℤ p) = sum_fits c.args.sum.value p c.requires.small in
    search rules

pub returns-clause-small : goal.returns-clause-small
returns-clause-small c =
    let p = value_of c.args.a.now c.args.factor *ℤ at c.args.a.now c.args.variable in
    let size = sum_size c.args.sum.value p in
    search rules
