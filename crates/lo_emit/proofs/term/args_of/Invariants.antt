use Rattle.std.proofs.Common.{◌≡◌, ◌++◌, map, drop}
use Rattle.lo_emit.specs.Emitted.{arg_of}
use Rattle.lo_emit.proofs.term.args_of.Given as goal

abbrev pub invariant-loop-term : goal.invariant-loop-term
invariant-loop-term l = l.args ++ map arg_of (drop l.term-index l.terms) ≡ map arg_of l.terms
