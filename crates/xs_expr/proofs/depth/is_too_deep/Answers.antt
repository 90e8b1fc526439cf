use Rattle.std.proofs.Common.{drop, ◌+◌}
use Rattle.xs_expr.proofs.Depths.{deeper-here, deeper-before, deeper-behind}
use Rattle.xs_expr.proofs.depth.is_too_deep.Goals as goal

pub returns-then-level-gt-LEVELS-clause-deep : goal.returns-then-level-gt-LEVELS-clause-deep
returns-then-level-gt-LEVELS-clause-deep c = λ _.
    let rest = drop (c.loop-byte.byte-index + 1) c.args.text.now in
    c.loop-byte.invariant.whole (deeper-before c.loop-byte.level c.opened-level.result c.loop-byte.byte-index c.args.text.now c.loop-byte-test.true c.opened-level.ensures (deeper-here c.opened-level.result rest c.if-level-gt-LEVELS.true))

pub loop-byte-preserved : goal.loop-byte-preserved
loop-byte-preserved c = record {
  shallow = c.if-level-gt-LEVELS.false;
  whole = λ d. c.loop-byte.invariant.whole (deeper-before c.loop-byte.level c.opened-level.result c.loop-byte.byte-index c.args.text.now c.loop-byte-test.true c.opened-level.ensures d);
  left = λ d. deeper-behind c.loop-byte.level c.opened-level.result c.loop-byte.byte-index c.args.text.now c.loop-byte.invariant.shallow c.loop-byte-test.true c.opened-level.ensures (c.loop-byte.invariant.left d);
}
