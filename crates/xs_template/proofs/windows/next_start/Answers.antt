use Rattle.std.proofs.Common.{arith}
use Rattle.xs_template.proofs.WindowLemmas.{next_within, next_past}
use Rattle.xs_template.proofs.windows.next_start.Goals as goal

pub returns-then-offset-from-clause-value : goal.returns-then-offset-from-clause-value
returns-then-offset-from-clause-value c = next_within c.args.offset c.args.start c.args.end c.requires.offset c.requires.multiple (omega (arith, c.if-offset-from.true, c.from.ensures))

pub returns-else-offset-from-clause-value : goal.returns-else-offset-from-clause-value
returns-else-offset-from-clause-value c = next_past c.args.offset c.args.start c.args.end c.requires.multiple c.requires.before (omega (arith, c.if-offset-from.false, c.from.ensures))
