use Rattle.std.proofs.Common.{◌≡◌, drop}
use Rattle.xs_model.specs.Lists.{is_among}
use Rattle.xs_testing.proofs.conditions.contains.Given as goal

abbrev pub invariant-loop-other : goal.invariant-loop-other
invariant-loop-other l = is_among (drop l.other-index l.values) l.value ≡ is_among l.values l.value
