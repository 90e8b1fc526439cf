use Rattle.std.proofs.Common.{◌≡◌, drop}
use Rattle.lo_emit.specs.Literals.{find}
use Rattle.lo_emit.proofs.literal.find.Given as goal

abbrev pub invariant-loop-literal : goal.invariant-loop-literal
invariant-loop-literal l = find (drop l.literal-index l.table) l.cell ≡ find l.table l.cell
