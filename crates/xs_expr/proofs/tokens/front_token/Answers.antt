use Rattle.std.proofs.Common.{ℕ, List, ◌∷◌, take, subst, sym, ap, ◌∙◌}
use Rattle.xs_expr.specs.Tokens.{tokens_of}
use Rattle.xs_expr.proofs.TokenLemmas.{Front, token-front, behind-shorter}
use Rattle.xs_expr.proofs.tokens.front_token.Goals as goal

pub returns-clause-value : goal.returns-clause-value
returns-clause-value c =
    let front = subst (Front c.args.bytes.now) (sym c.token_len-end.ensures.value) (token-front c.args.bytes.now c.requires.some c.requires.front) in
    front.value ∙ ap (λ (ys : List ℕ). take c.token_len-end.result c.args.bytes.now ∷ tokens_of ys) (sym c.from.ensures)

pub returns-clause-within : goal.returns-clause-within
returns-clause-within c =
    let front = subst (Front c.args.bytes.now) (sym c.token_len-end.ensures.value) (token-front c.args.bytes.now c.requires.some c.requires.front) in
    behind-shorter c.args.bytes.now c.from.result.now c.token_len-end.result front.some c.requires.some c.from.ensures
