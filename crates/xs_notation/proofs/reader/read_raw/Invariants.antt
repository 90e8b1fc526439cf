use Rattle.std.proofs.Common.{◌≡◌, Some, length}
use Rattle.xs_expr.specs.Tokens.{tokens_of}
use Rattle.xs_notation.specs.Parse.{begin, run}
use Rattle.xs_notation.proofs.reader.read_raw.Given as goal

abbrev pub invariant-loop-token : goal.invariant-loop-token
invariant-loop-token l = run (Some l.state) (tokens_of l.rest) ≡ run (Some begin) (tokens_of l.text)

abbrev pub decreases-loop-token : goal.decreases-loop-token
decreases-loop-token l = length l.rest
