-- The bounds of a literal exponent are the exponent.
use Rattle.std.proofs.Common.{◌≡◌, ℤ, refl, sym, ◌∙◌, ap, subst, List, [], ◌∷◌, map, arith, Result, Ok, Err}
use Rattle.std.proofs.lemmas.Grind.{common_steps}
use Rattle.xf_num.specs.Span.{Bounds}
use Rattle.xf_text.specs.declared.fault.Kind.{Kind}
use Rattle.xs_model.specs.declared.expr.Op.{Op}
use Rattle.xs_model.specs.declared.expr.Expr.{Expr, out-Expr, fold_out-Expr, map-Expr}
use Rattle.xs_model.specs.declared.expr.Expr.TheOpen.{Expr-F}
use Rattle.xs_expr.specs.declared.limits.Operands.{Operands}
use Rattle.xs_model.specs.Bounds.{bounds, bounds_step, limited, exactly, all_ok}
use Rattle.xs_expr.specs.Operands.{gathered, gathered_of, none}
use Rattle.xs_model.specs.Shape.{IsExponent, IsExponentLayer, IsPower}
use Rattle.xs_expr.proofs.Gathered.{gathered-second}

pub small-exponent : (z : ℤ) → IsExponent z → limited (exactly z) ≡ Ok (exactly z)
small-exponent z h = grind (arith, common_steps, h.least, h.greatest)

ok_is : {X : Type 0} (x y : X) (r : Result X Kind) → r ≡ Ok x → r ≡ Ok y → x ≡ y
ok_is x y r g h = cc

module _ (ss : List Bounds) where
  pub literal-is : (k : Expr) (z : ℤ) → out-Expr k ≡ Expr-F.Int z → IsExponent z → bounds ss k ≡ Ok (exactly z)
  literal-is k z e h = fold_out-Expr (Result Bounds Kind) (bounds_step ss) k ∙ ap (λ (x : Expr-F Expr). bounds_step ss (map-Expr Expr (Result Bounds Kind) (bounds ss) x)) e ∙ small-exponent z h

  pub literal : (k : Expr) (x : Expr-F Expr) → out-Expr k ≡ x → IsExponentLayer x → (z : ℤ) × IsExponent z × (bounds ss k ≡ Ok (exactly z))
  literal k (Expr-F.Int z) e h = (z, h, literal-is k z e h)
  literal k (Expr-F.Var v) e h = absurd h
  literal k (Expr-F.Node op es) e h = absurd h

  second : (op : Op) (r s : Result Bounds Kind) (z : ℤ) (o : Operands) → s ≡ Ok (exactly z) → gathered_of op 0 none (all_ok (r ∷ s ∷ [])) ≡ Ok o → o.second.lo ≡ z
  second op (Err k) s z o e h = cc
  second op (Ok b) (Err k) z o e h = cc
  second op (Ok b) (Ok c) z o e h =
      let is : gathered op 0 none (b ∷ c ∷ []) ≡ o = ok_is (gathered op 0 none (b ∷ c ∷ [])) o (Ok (gathered op 0 none (b ∷ c ∷ []))) refl h in
      ap (λ (o : Operands). o.second.lo) (sym is) ∙ ap (λ (d : Bounds). d.lo) (gathered-second op (b ∷ c ∷ []) ∙ ok_is c (exactly z) (Ok c) refl e)

  pub power-exponent : (op : Op) (es : List Expr) (o : Operands) → IsPower es → gathered_of op 0 none (all_ok (map (bounds ss) es)) ≡ Ok o → IsExponent o.second.lo
  power-exponent op [] o p h = absurd p
  power-exponent op (e ∷ []) o p h = absurd p
  power-exponent op (e ∷ k ∷ []) o p h =
      let z = literal k (out-Expr k) refl p.1 in
      subst IsExponent (sym (second op (bounds ss e) (bounds ss k) z.0 o z.2 h)) z.1
  power-exponent op (e ∷ k ∷ f ∷ es) o p h = absurd p
