use Rattle.std.proofs.Common.{◌≡◌, ◌++◌, map, drop}
use Rattle.std.specs.List.{flat_map}
use Rattle.xs_fields.specs.Conditions.{all_meet, earlier_of, first_missed}
use Rattle.xs_notation.specs.Reading.{expr_of, words_in}
use Rattle.xs_notation.specs.Terms.{term_meets}
use Rattle.xs_notation.proofs.build.+build.Given as goal

abbrev pub invariant-build_operands-loop-operand : goal.invariant-build_operands-loop-operand
invariant-build_operands-loop-operand l = record {
  missed : earlier_of l.missed (first_missed (all_meet (term_meets l.names) (flat_map words_in (drop l.operand-index l.operands)))) ≡ first_missed (all_meet (term_meets l.names) (flat_map words_in l.operands));
  value : l.built ++ map (expr_of l.names) (drop l.operand-index l.operands) ≡ map (expr_of l.names) l.operands;
}
