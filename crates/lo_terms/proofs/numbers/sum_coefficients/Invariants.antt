use Rattle.std.proofs.Common.{◌≡◌, ◌++◌, map, pos, drop}
use Rattle.fz_model.specs.declared.model.Arg.TheVariants as arg
use Rattle.lo_terms.proofs.numbers.sum_coefficients.Given as goal

abbrev pub invariant-loop-operand : goal.invariant-loop-operand
invariant-loop-operand l = l.coefficients ++ map arg.Int (map (λ o. pos 1) (drop l._operand-index l.operands)) ≡ map arg.Int (map (λ o. pos 1) l.operands)
