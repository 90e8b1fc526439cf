use Rattle.std.proofs.Common.{sym, ap, ◌∙◌}
use Rattle.xs_expr.specs.Tokens.{tokens_of}
use Rattle.xs_expr.proofs.TokenLemmas.{tokens-past-is, token-begins-is, empty-is, filled-is}
use Rattle.xs_expr.proofs.tokens.next_token.Goals as goal

pub front_token-requires-clause-front : goal.front_token-requires-clause-front
front_token-requires-clause-front c =
    token-begins-is c.args.text.now c.from-rest.result.now c.space_len.result c.space_len.ensures.value c.from-rest.ensures
    (filled-is c.from-rest.result.now (sym c.is_empty.ensures ∙ c.if-is_empty.false))

pub returns-then-is_empty-clause-value : goal.returns-then-is_empty-clause-value
returns-then-is_empty-clause-value c =
    tokens-past-is c.args.text.now c.from-rest.result.now c.space_len.result c.space_len.ensures.value c.from-rest.ensures
    ∙ ap tokens_of (empty-is c.from-rest.result.now (sym c.is_empty.ensures ∙ c.if-is_empty.true))

pub returns-else-is_empty-clause-value : goal.returns-else-is_empty-clause-value
returns-else-is_empty-clause-value c =
    tokens-past-is c.args.text.now c.from-rest.result.now c.space_len.result c.space_len.ensures.value c.from-rest.ensures ∙ c.front_token.ensures.value
