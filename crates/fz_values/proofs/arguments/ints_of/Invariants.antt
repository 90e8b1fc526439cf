use Rattle.std.proofs.Common.{◌≡◌, ◌++◌, drop, map}
use Rattle.fz_values.specs.Integers.{int_of}
use Rattle.fz_values.proofs.arguments.ints_of.Given as goal

abbrev pub invariant-loop-text : goal.invariant-loop-text
invariant-loop-text l = l.row ++ map int_of (drop l.text-index l.digits) ≡ map int_of l.digits
