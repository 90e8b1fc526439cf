use Rattle.std.proofs.Common.{sym, ◌∙◌, arith}
use Rattle.fz_items.specs.Conditions.{in_order}
use Rattle.fz_items.proofs.ItemLemmas.{done}
use Rattle.fz_items.proofs.items.read_items.Goals as goal

pub returns : goal.returns
returns c =
    sym c.loop-at.invariant
    ∙ done in_order c.args.bound c.args.size c.loop-at.progress c.args.items.now c.args.lefts.now c.loop-at.at (omega (arith, c.loop-at-test.false, c.min-at-end.ensures))
