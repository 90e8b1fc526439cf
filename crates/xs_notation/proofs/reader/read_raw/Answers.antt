use Rattle.std.proofs.Common.{sym, ap, ◌∙◌}
use Rattle.xs_expr.specs.Tokens.{tokens_of}
use Rattle.xs_notation.specs.Parse.{finished_on}
use Rattle.xs_notation.proofs.Runs.{stuck}
use Rattle.xs_notation.proofs.reader.read_raw.Goals as goal

pub returns-in-None : goal.returns-in-None
returns-in-None c =
    sym (ap finished_on
    (sym c.loop-token.invariant
    ∙ stuck c.loop-token.state c.in-Some.token.now (tokens_of c.in-Some.more.now) (tokens_of c.loop-token.rest.now) c.in-Some.ensures.value (sym c.in_ok-next.ensures ∙ c.in-None.is)))
