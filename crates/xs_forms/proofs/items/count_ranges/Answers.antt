use Rattle.std.proofs.Common.{arith}
use Rattle.xs_forms.proofs.FieldLemmas.{length-ends}
use Rattle.xs_forms.proofs.items.count_ranges.Goals as goal

pub returns : goal.returns
returns c = omega (arith, length-ends c.args.ranges.now, c.requires)
