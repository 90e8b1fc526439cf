use Rattle.std.proofs.Common.{◌≡◌, length, rules}
use Rattle.xs_array.proofs.CountLemmas.{longer}
use Rattle.xs_array.proofs.cells.is_same_list.Goals as goal

pub returns-in-None : goal.returns-in-None
returns-in-None c =
    let none : length c.loop-size.rest.now ≡ 0 = search rules in
    longer c.args.sizes.now c.args.others.now c.loop-size.size-index c.loop-size.rest.now c.loop-size-test.true none c.loop-size.invariant
