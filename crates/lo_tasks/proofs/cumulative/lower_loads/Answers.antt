use Rattle.std.proofs.Common.{rules}
use Rattle.lo_tasks.proofs.Factors.{factors_negatable}
use Rattle.lo_tasks.proofs.cumulative.lower_loads.Goals as goal

pub lower_load-requires-clause-negatable : goal.lower_load-requires-clause-negatable
lower_load-requires-clause-negatable g c = factors_negatable c.args.spans.now c.args.tasks.now _ (search rules) c.requires.heights
