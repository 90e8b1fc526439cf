-- An expression has as many nodes when its words are read.
use Rattle.std.proofs.Common.{◌≡◌, ℕ, ◌+◌, ℤ, pos, List, [], ◌∷◌, map, refl, sym, ap, subst, ◌∙◌, rules, Bool, true, false, not, ◌&&◌, cond, Option, Some, None}
use Rattle.xs_fields.specs.Cells.{variables_of}
use Rattle.xs_fields.specs.Conditions.{first_missed}
use Rattle.xs_fields.specs.Integers.{integer_of}
use Rattle.xs_fields.specs.declared.condition.Condition.{Condition}
use Rattle.xs_fields.specs.declared.condition.Condition.TheVariants.{Nesting, Spelling}
use Rattle.xs_model.specs.Formed.{nodes, total}
use Rattle.xs_model.specs.Outline.{Outline}
use Rattle.xs_model.specs.declared.expr.Op.{Op}
use Rattle.xs_model.specs.declared.expr.Expr.{Expr, Int, Var, Node, the_lemmas as expr_lemmas}
use Rattle.xs_expr.specs.Tokens.{tokens_of}
use Rattle.xs_notation.specs.Count.{nodes_in, nodes_of, OneCount}
use Rattle.xs_notation.specs.Nesting.{is_deeper, nesting_meets}
use Rattle.xs_notation.specs.Parse.{parse}
use Rattle.xs_notation.specs.Reading.{expr_at, expr_in, expr_meets, expr_of, raw_meets}
use Rattle.xs_notation.specs.Terms.{settled, term_by, term_in, term_meets, variable_in}
use Rattle.xs_notation.specs.declared.raw.Raw.{Raw, Word, Call, roll-Raw, map-Raw, ind-Raw}
use Rattle.xs_notation.specs.declared.raw.Raw.TheVariants.{rolls-Word, rolls-Call}
use Rattle.xs_notation.specs.declared.raw.Raw.TheOpen.{Raw-F}
use Rattle.xs_notation.proofs.ShapeLemmas.{expr-Call, expr-Word}
use Rattle.xs_notation.proofs.CountLemmas.{nodes-Call, nodes-Word, raw-counted}

nodes-Int : (z : ℤ) → nodes (Int z) ≡ 1
nodes-Int z = search (rules, expr_lemmas)

nodes-Var : (v : ℕ) → nodes (Var v) ≡ 1
nodes-Var v = search (rules, expr_lemmas)

nodes-Node : (op : Op) (es : List Expr) → nodes (Node op es) ≡ 1 + total (map nodes es)
nodes-Node op es = search (rules, expr_lemmas)

one-in : (vs : List ℕ) → nodes (variable_in vs) ≡ 1
one-in [] = nodes-Int (pos 0)
one-in (v ∷ vs) = nodes-Var v

-- a word that is read is one node
one-term : (os : List Outline) (w : List ℕ) (o : Option Condition) (i : Option ℤ) → nodes (term_in (settled o (term_by os w i))) ≡ 1
one-term os w (Some k) i = nodes-Int (pos 0)
one-term os w None (Some z) = nodes-Int z
one-term os w None None = one-in (variables_of os w)

module _ (os : List Outline) where
  abbrev Claim : Raw → Type 0
  Claim r = nodes (expr_of os r) ≡ nodes_in r

  abbrev kept : List ((r : Raw) × Claim r) → List Raw
  kept ps = map (λ p. p.0) ps

  all-same : (ps : List ((r : Raw) × Claim r)) → map nodes (map (expr_of os) (kept ps)) ≡ map nodes_in (kept ps)
  all-same [] = refl
  all-same (p ∷ ps) = ap (λ n. n ∷ map nodes (map (expr_of os) (kept ps))) p.1 ∙ ap (λ ns. nodes_in p.0 ∷ ns) (all-same ps)

  at-word : (w : List ℕ) → Claim (Word w)
  at-word w = ap nodes (expr-Word os w) ∙ one-term os w (first_missed (term_meets os w)) (integer_of w) ∙ sym (nodes-Word w)

  at-call : (op : Op) (ps : List ((r : Raw) × Claim r)) → Claim (Call op (kept ps))
  at-call op ps =
      ap nodes (expr-Call os op (kept ps))
      ∙ nodes-Node op (map (expr_of os) (kept ps))
      ∙ ap (λ ns. 1 + total ns) (all-same ps)
      ∙ sym (nodes-Call op (kept ps))

  at-layer : (y : Raw-F ((r : Raw) × Claim r)) → Claim (roll-Raw (map-Raw ((r : Raw) × Claim r) Raw (λ p. p.0) y))
  at-layer (Raw-F.Word w) = subst Claim (sym (rolls-Word w)) (at-word w)
  at-layer (Raw-F.Call op ps) = subst Claim (sym (rolls-Call op (kept ps))) (at-call op ps)

  pub nodes-read : (r : Raw) → Claim r
  nodes-read = ind-Raw Claim (λ x y is. subst (λ z. Claim (roll-Raw z)) is (at-layer y))

pub text-counted : (os : List Outline) (text : List ℕ) (r : Raw) → parse (tokens_of text) ≡ Some r → nodes (expr_at os text) ≡ nodes_of text
text-counted os text r e = ap (λ o. nodes (expr_in os o)) e ∙ nodes-read os r ∙ raw-counted (tokens_of text) r e

-- the text of an expression that misses no condition has as many words among its tokens as the expression has nodes
pub expression_counted : (os : List Outline) (text : List ℕ) → first_missed (expr_meets os text) ≡ None → nodes (expr_at os text) ≡ nodes_of text
expression_counted os text h = by (parse (tokens_of text)) refl h
  where
    -- a text that spells no expression misses a condition
    unspelt : (deep : Bool) → cond (not (not deep && true)) (Some Nesting) (Some Spelling) ≡ None → nodes (expr_at os text) ≡ nodes_of text
    unspelt true g = cc
    unspelt false g = cc

    by : (o : Option Raw) → parse (tokens_of text) ≡ o → first_missed (λ k. nesting_meets text k && raw_meets os o k) ≡ None → nodes (expr_at os text) ≡ nodes_of text
    by (Some r) e g = text-counted os text r e
    by None e g = unspelt (is_deeper 0 text) g

pub one-count : OneCount
one-count = record { raw = raw-counted; read = nodes-read; expression = text-counted }
