use Rattle.std.proofs.Common.{◌≡◌, ◌+◌, ◌∙◌, ap, sym, arith, List, ℕ, [], drop}
use Rattle.std.proofs.lemmas.List.{drop_all}
use Rattle.xs_laws.proofs.Members.{passes, passes_is}
use Rattle.xs_model.specs.Instance.{values}
use Rattle.xs_model.specs.Lists.{is_among}
use Rattle.xs_counted.proofs.count.count_among.Goals as goal

pub returns : goal.returns
returns c =
    let a = c.args.a.now in
    let list = c.args.list.now in
    let ys = c.args.sorted.now in
    let count = c.loop-variable.count in
    let i = c.loop-variable.variable-index in
    let none : drop i list ≡ [] = drop_all i list (omega (arith, c.loop-variable-test.false)) in
    let shifted : count + 0 ≡ passes (is_among ys) (values a list) = ap (λ (vs : List ℕ). count + passes (is_among ys) (values a vs)) (sym none) ∙ c.loop-variable.invariant.so_far in
    let done : count ≡ passes (is_among ys) (values a list) = omega (arith, shifted) in
    done ∙ sym (passes_is (is_among ys) (values a list))
