-- An expression has as many magnitudes as nodes.
use Rattle.std.proofs.Common.{◌≡◌, ℕ, ◌+◌, ◌*◌, List, [], ◌∷◌, ◌++◌, length, map, refl, sym, ◌∙◌, ap, subst, arith}
use Rattle.std.proofs.lemmas.List.{length-append}
use Rattle.std.specs.Prelude.{sum}
use Rattle.xf_num.specs.Span.{Bounds}
use Rattle.xs_model.specs.declared.expr.Expr.{Expr, roll-Expr, map-Expr, ind-Expr, fold-roll-Expr}
use Rattle.xs_model.specs.declared.expr.Expr.TheOpen.{Expr-F}
use Rattle.xs_model.specs.declared.instance.Constraint.TheVariants.{Intension}
use Rattle.xs_model.specs.Formed.{nodes, nodes_step, total}
use Rattle.xs_model.specs.Magnitude.{Weight, weight_step, weighed, nodes_below, mag, total_of}

one-more : (ms : List ℕ) (m n : ℕ) → length ms ≡ n → length (ms ++ m ∷ []) ≡ 1 + n
one-more ms m n h = omega (arith, length-append ms (m ∷ []), h)

module _ (ss : List Bounds) where
  abbrev Claim : Expr → Type 0
  Claim e = length (weighed ss e).nodes ≡ nodes e

  below : (ps : List ((e : Expr) × Claim e)) → length (nodes_below (map (weighed ss) (map (λ p. p.0) ps))) ≡ total (map nodes (map (λ p. p.0) ps))
  below [] = refl
  below (p ∷ ps) = omega (arith, length-append (weighed ss p.0).nodes (nodes_below (map (weighed ss) (map (λ q. q.0) ps))), p.1, below ps)

  at-layer : (y : Expr-F ((e : Expr) × Claim e)) → Claim (roll-Expr (map-Expr ((e : Expr) × Claim e) Expr (λ p. p.0) y))
  at-layer (Expr-F.Int z) = ap (λ (w : Weight). length w.nodes) (fold-roll-Expr Weight (weight_step ss) (Expr-F.Int z)) ∙ sym (fold-roll-Expr ℕ nodes_step (Expr-F.Int z))
  at-layer (Expr-F.Var v) = ap (λ (w : Weight). length w.nodes) (fold-roll-Expr Weight (weight_step ss) (Expr-F.Var v)) ∙ sym (fold-roll-Expr ℕ nodes_step (Expr-F.Var v))
  at-layer (Expr-F.Node op ps) =
      let es : List Expr = map (λ p. p.0) ps in
      ap (λ (w : Weight). length w.nodes) (fold-roll-Expr Weight (weight_step ss) (Expr-F.Node op es)) ∙ one-more (nodes_below (map (weighed ss) es)) _ (total (map nodes es)) (below ps) ∙ sym (fold-roll-Expr ℕ nodes_step (Expr-F.Node op es))

  pub length-nodes : (e : Expr) → length (weighed ss e).nodes ≡ nodes e
  length-nodes = ind-Expr Claim (λ x y is. subst (λ z. Claim (roll-Expr z)) is (at-layer y))

  pub mag-expression : (e : Expr) → mag ss (Intension e) ≡ total_of (weighed ss e).nodes
  mag-expression e =
      let count : nodes e + 0 ≡ length (weighed ss e).nodes = omega (arith, length-nodes e) in
      let all : sum (weighed ss e).nodes + 0 ≡ sum (weighed ss e).nodes = omega arith in
      ap (λ (m : ℕ). m + (nodes e + 0) * (nodes e + 0)) all ∙ ap (λ (n : ℕ). sum (weighed ss e).nodes + n * n) count
