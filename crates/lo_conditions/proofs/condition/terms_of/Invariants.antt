use Rattle.std.proofs.Common.{◌≡◌, ◌++◌, map, drop}
use Rattle.lo_emit.specs.Conditions.{term_of}
use Rattle.lo_conditions.proofs.condition.terms_of.Given as goal

abbrev pub invariant-loop-operand : goal.invariant-loop-operand
invariant-loop-operand l = l.terms ++ map term_of (drop l.operand-index l.operands) ≡ map term_of l.operands
