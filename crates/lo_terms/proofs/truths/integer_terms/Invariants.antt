use Rattle.std.proofs.Common.{◌≡◌, ◌++◌, map, drop}
use Rattle.lo_terms.specs.Rules.{integer_term, terms_of}
use Rattle.lo_terms.proofs.truths.integer_terms.Given as goal

abbrev pub invariant-loop-operand : goal.invariant-loop-operand
invariant-loop-operand l = l.values ++ map integer_term (terms_of (drop l.operand-index l.operands)) ≡ map integer_term (terms_of l.operands)
