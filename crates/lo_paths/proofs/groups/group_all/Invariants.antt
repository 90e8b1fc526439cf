use Rattle.std.proofs.Common.{take}
use Rattle.lo_paths.specs.Groups.{IsGrouped}
use Rattle.lo_paths.proofs.groups.group_all.Given as goal

abbrev pub invariant-loop-arrival : goal.invariant-loop-arrival
invariant-loop-arrival l = IsGrouped (take l.arrival-index l.arrivals) l.groups
