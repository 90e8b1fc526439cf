use Rattle.std.proofs.Common.{sym, ◌∙◌}
use Rattle.xs_fields.specs.Cells.{variables_of}
use Rattle.xs_notation.specs.Terms.{variable_in}
use Rattle.xs_notation.proofs.MissedLemmas.{name-missed}
use Rattle.xs_notation.proofs.term.named.Goals as goal

pub returns : goal.returns
returns c =
    name-missed c.args.names.now c.args.word.now c.in_ok-parsed.parsed c.in-Err.missed (variable_in (variables_of c.args.names.now c.args.word.now))
    c.in_ok-parsed.ensures (sym c.in_ok-reached.ensures ∙ c.in-Err.is)
