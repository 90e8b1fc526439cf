use Rattle.std.proofs.Common.{arith, take}
use Rattle.std.proofs.lemmas.Grind.{common_steps}
use Rattle.lo_paths.proofs.GroupLemmas.{grouped_few}
use Rattle.lo_paths.proofs.groups.group_all.Goals as goal

pub returns-clause-few : goal.returns-clause-few
returns-clause-few c = let few = grouped_few (take c.loop-arrival.arrival-index c.args.arrivals.now) c.loop-arrival.groups c.loop-arrival.invariant in grind (arith, common_steps, few)
