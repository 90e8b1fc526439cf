use Rattle.std.proofs.Common.{◌≡◌, ◌++◌, map, drop}
use Rattle.lo_emit.specs.Emitted.{arg_of}
use Rattle.lo_terms.specs.Rules.{terms_of}
use Rattle.lo_terms.proofs.term.args_of.Given as goal

abbrev pub invariant-loop-operand : goal.invariant-loop-operand
invariant-loop-operand l = l.args ++ map arg_of (terms_of (drop l.operand-index l.operands)) ≡ map arg_of (terms_of l.operands)
