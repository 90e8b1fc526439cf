-- The weight of each kind of expression, and its bounds.
use Rattle.std.proofs.Common.{◌≡◌, ℕ, ℤ, refl, sym, ◌∙◌, ap, subst, List, [], ◌∷◌, map, rules, Result}
use Rattle.xf_num.specs.Span.{Bounds}
use Rattle.xf_text.specs.declared.fault.Kind.{Kind}
use Rattle.xs_model.specs.declared.expr.Op.{Op}
use Rattle.xs_model.specs.declared.expr.Expr.{Expr, Int, Var, Node, the_lemmas, roll-Expr, map-Expr, ind-Expr, fold-roll-Expr}
use Rattle.xs_model.specs.declared.expr.Expr.TheOpen.{Expr-F}
use Rattle.xs_model.specs.Bounds.{bounds, bounds_step, limited, exactly, operand, all_ok, and_then, node_bounds}
use Rattle.xs_model.specs.Magnitude.{Weight, weight, weight_step, weighed, bounds_below, nodes_below}

pub weighed-Int : (ss : List Bounds) (z : ℤ) → weighed ss (Int z) ≡ weight (limited (exactly z)) []
weighed-Int ss z = search (rules, the_lemmas)

pub weighed-Var : (ss : List Bounds) (v : ℕ) → weighed ss (Var v) ≡ weight (limited (operand ss v)) []
weighed-Var ss v = search (rules, the_lemmas)

pub weighed-Node : (ss : List Bounds) (op : Op) (es : List Expr) → weighed ss (Node op es) ≡ weight (and_then (all_ok (bounds_below (map (weighed ss) es))) (node_bounds op)) (nodes_below (map (weighed ss) es))
weighed-Node ss op es = search (rules, the_lemmas)

-- the bounds that are weighed are the bounds
module _ (ss : List Bounds) where
  abbrev Claim : Expr → Type 0
  Claim e = (weighed ss e).bounds ≡ bounds ss e

  below : (ps : List ((e : Expr) × Claim e)) → bounds_below (map (weighed ss) (map (λ p. p.0) ps)) ≡ map (bounds ss) (map (λ p. p.0) ps)
  below [] = refl
  below (p ∷ ps) = ap (λ (r : Result Bounds Kind). r ∷ bounds_below (map (weighed ss) (map (λ q. q.0) ps))) p.1 ∙ ap (λ (rs : List (Result Bounds Kind)). bounds ss p.0 ∷ rs) (below ps)

  at-layer : (y : Expr-F ((e : Expr) × Claim e)) → Claim (roll-Expr (map-Expr ((e : Expr) × Claim e) Expr (λ p. p.0) y))
  at-layer (Expr-F.Int z) = ap (λ (w : Weight). w.bounds) (fold-roll-Expr Weight (weight_step ss) (Expr-F.Int z)) ∙ sym (fold-roll-Expr (Result Bounds Kind) (bounds_step ss) (Expr-F.Int z))
  at-layer (Expr-F.Var v) = ap (λ (w : Weight). w.bounds) (fold-roll-Expr Weight (weight_step ss) (Expr-F.Var v)) ∙ sym (fold-roll-Expr (Result Bounds Kind) (bounds_step ss) (Expr-F.Var v))
  at-layer (Expr-F.Node op ps) =
      let es : List Expr = map (λ p. p.0) ps in
      ap (λ (w : Weight). w.bounds) (fold-roll-Expr Weight (weight_step ss) (Expr-F.Node op es))
      ∙ ap (λ (rs : List (Result Bounds Kind)). and_then (all_ok rs) (node_bounds op)) (below ps)
      ∙ sym (fold-roll-Expr (Result Bounds Kind) (bounds_step ss) (Expr-F.Node op es))

  pub weighed-bounds : (e : Expr) → (weighed ss e).bounds ≡ bounds ss e
  weighed-bounds = ind-Expr Claim (λ x y is. subst (λ z. Claim (roll-Expr z)) is (at-layer y))

pub bounds-below : (ss : List Bounds) (es : List Expr) → bounds_below (map (weighed ss) es) ≡ map (bounds ss) es
bounds-below ss [] = refl
bounds-below ss (e ∷ es) =
    ap (λ (r : Result Bounds Kind). r ∷ bounds_below (map (weighed ss) es)) (weighed-bounds ss e)
    ∙ ap (λ (rs : List (Result Bounds Kind)). bounds ss e ∷ rs) (bounds-below ss es)
