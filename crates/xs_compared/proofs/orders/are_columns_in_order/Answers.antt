use Rattle.std.proofs.Common.{◌≡◌, ◌+◌, ◌-◌, ℕ, suc, Bool, true, sym, ◌∙◌, arith, rules}
use Rattle.xs_model.specs.Instance.{rows_of}
use Rattle.xs_model.specs.Lists.{column}
use Rattle.xs_compared.specs.Tests.{in_order}
use Rattle.xs_compared.proofs.LineLemmas.{below_next}
use Rattle.xs_compared.proofs.orders.are_columns_in_order.Goals as goal

pub loop-left-preserved : goal.loop-left-preserved
loop-left-preserved c =
    let vs = rows_of c.args.a.now c.args.rows.now in
    let test : ℕ → Bool = λ j. in_order c.args.rel.now (column vs j) (column vs (suc j)) in
    let left = c.loop-left.left in
    let more = c.loop-left-test.true in
    let fits = c.loop-left.invariant.fits in
    let is : left ≡ (left - 1) + 1 = omega (arith, more) in
    let here : test (left - 1) ≡ true = search rules in
    record { so_far = sym (below_next test left (left - 1) is here) ∙ c.loop-left.invariant.so_far; fits = omega (arith, fits) }
