use Rattle.std.proofs.Common.{◌≡◌, ◌++◌, drop}
use Rattle.lo_paths.specs.Path.{final_truths}
use Rattle.lo_paths.proofs.path.truths_among.Given as goal

abbrev pub invariant-loop-i : goal.invariant-loop-i
invariant-loop-i l = l.all ++ final_truths l.finals (drop l.i l.states) (drop l.i l.truths) ≡ final_truths l.finals l.states l.truths
