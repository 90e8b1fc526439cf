-- What is asked of no call, and holds of each operand that a word is, holds of each operand of an expression.
use Rattle.std.proofs.Common.{◌≡◌, ℕ, List, [], ◌∷◌, map, refl, sym, ap, subst, ◌∙◌}
use Rattle.xs_model.specs.Outline.{Outline}
use Rattle.xs_model.specs.declared.expr.Op.{Op}
use Rattle.xs_model.specs.declared.expr.Expr.{Expr, every-Expr, every_made-Expr}
use Rattle.xs_model.specs.declared.expr.Expr.TheVariants.{rolls-Node}
use Rattle.xs_model.specs.declared.expr.Expr.TheOpen.{Expr-F}
use Rattle.xs_notation.specs.Reading.{expr_of}
use Rattle.xs_notation.specs.Terms.{term_of}
use Rattle.xs_notation.specs.declared.raw.Raw.{Raw, Call, roll-Raw, map-Raw, ind-Raw}
use Rattle.xs_notation.specs.declared.raw.Raw.TheVariants.{rolls-Word, rolls-Call}
use Rattle.xs_notation.specs.declared.raw.Raw.TheOpen.{Raw-F}
use Rattle.xs_notation.proofs.ShapeLemmas.{expr-Call, expr-Word}

module _ (Holds : Expr-F Expr → Type 0) (call : (op : Op) (es : List Expr) → Holds (Expr-F.Node op es)) (os : List Outline) (word : (w : List ℕ) → every-Expr Holds (term_of os w)) where
  abbrev Claim : Raw → Type 0
  Claim r = every-Expr Holds (expr_of os r)

  abbrev kept : List ((r : Raw) × Claim r) → List Raw
  kept ps = map (λ p. p.0) ps

  abbrev built : List ((r : Raw) × Claim r) → List ((e : Expr) × every-Expr Holds e)
  built ps = map (λ p. (expr_of os p.0, p.1)) ps

  same : (ps : List ((r : Raw) × Claim r)) → map (λ (e : (e : Expr) × every-Expr Holds e). e.0) (built ps) ≡ map (expr_of os) (kept ps)
  same [] = refl
  same (p ∷ ps) = ap (λ es. expr_of os p.0 ∷ es) (same ps)

  at-call : (op : Op) (ps : List ((r : Raw) × Claim r)) → Claim (Call op (kept ps))
  at-call op ps =
      let es : List Expr = map (expr_of os) (kept ps) in
      subst (every-Expr Holds) (rolls-Node op es ∙ sym (expr-Call os op (kept ps)))
      (every_made-Expr Holds (Expr-F.Node op es) (Expr-F.Node op (built ps)) (ap (Expr-F.Node op) (same ps)) (call op es))

  at-layer : (y : Raw-F ((r : Raw) × Claim r)) → Claim (roll-Raw (map-Raw ((r : Raw) × Claim r) Raw (λ p. p.0) y))
  at-layer (Raw-F.Word w) = subst Claim (sym (rolls-Word w)) (subst (every-Expr Holds) (sym (expr-Word os w)) (word w))
  at-layer (Raw-F.Call op ps) = subst Claim (sym (rolls-Call op (kept ps))) (at-call op ps)

  pub each-word : (r : Raw) → Claim r
  each-word = ind-Raw Claim (λ x y is. subst (λ z. Claim (roll-Raw z)) is (at-layer y))
