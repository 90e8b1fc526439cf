use Rattle.std.proofs.Common.{◌≡◌, drop, max}
use Rattle.xs_forms.specs.Room.{most_longest}
use Rattle.xs_forms.proofs.sizes.most_longest.Given as goal

abbrev pub invariant-loop-constraint : goal.invariant-loop-constraint
invariant-loop-constraint l = max l.most (most_longest (drop l.constraint-index l.constraints)) ≡ most_longest l.constraints
