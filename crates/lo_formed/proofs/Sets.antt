-- Sets among expressions, and that any other expression is lowered to one operand.
use Rattle.std.proofs.Common.{◌≡◌, ℕ, ◌+◌, ℤ, Bool, true, false, List, [], ◌∷◌, map, refl, ap, sym, ◌∙◌, subst, rules, true≢false}
use Rattle.xf_num.specs.Span.{Bounds}
use Rattle.xs_model.specs.declared.expr.Op.{Op}
use Rattle.xs_model.specs.declared.expr.Op.TheVariants.{Set}
use Rattle.xs_model.specs.declared.expr.Expr.{Expr, Int, Var, Node, the_lemmas, roll-Expr, out-Expr, map-Expr, ind-Expr}
use Rattle.xs_model.specs.declared.expr.Expr.TheVariants.{rolls-Int, rolls-Var, rolls-Node}
use Rattle.xs_model.specs.declared.expr.Expr.TheOpen.{Expr-F}
use Rattle.xs_model.specs.Shape.{is_set, is_set_layer, is_set_operator}
use Rattle.lo_base.specs.Item.{made}
use Rattle.lo_terms.specs.declared.term.Mode.{Mode}
use Rattle.lo_terms.specs.declared.term.Operand.{Operand}
use Rattle.lo_terms.specs.Rules.{node, literal, variable}
use Rattle.lo_terms.specs.Lowering.{Low, low_expr, low_operands, own_low_of, span_of, has_written}
use Rattle.lo_terms.proofs.LowerLemmas.{low-Int, low-Var, low-Node}

pub layer-Int : (z : ℤ) → out-Expr (Int z) ≡ Expr-F.Int z
layer-Int z = search (rules, the_lemmas)

pub layer-Var : (v : ℕ) → out-Expr (Var v) ≡ Expr-F.Var v
layer-Var v = search (rules, the_lemmas)

pub layer-Node : (op : Op) (es : List Expr) → out-Expr (Node op es) ≡ Expr-F.Node op es
layer-Node op es = search (rules, the_lemmas)

pub set-Int : (z : ℤ) → is_set (Int z) ≡ false
set-Int z = ap is_set_layer (layer-Int z)

pub set-Var : (v : ℕ) → is_set (Var v) ≡ false
set-Var v = ap is_set_layer (layer-Var v)

pub set-Node : (op : Op) (es : List Expr) → is_set (Node op es) ≡ is_set_operator op
set-Node op es = ap is_set_layer (layer-Node op es)

pub clash : {P : Type 0} (t : Bool) → t ≡ true → t ≡ false → P
clash t h k = absurd (true≢false (sym h ∙ k))

pub set_only : (op : Op) → is_set_operator op ≡ true → op ≡ Set
set_only Set h = refl
set_only op h = absurd (true≢false (sym h))

module _ (ss : List Bounds) where
  pub record Alone (e : Expr) (mode : Mode) (n : ℕ) : Type 0 where
    pub operand : Operand
    pub is : (low_expr ss e mode n).operands ≡ operand ∷ []
    pub span : operand.span ≡ span_of ss e

  abbrev IsAlone : Expr → Type 0
  IsAlone e = is_set e ≡ false → (mode : Mode) (n : ℕ) → Alone e mode n

  alone_Node : (op : Op) (es : List Expr) → IsAlone (Node op es)
  alone_Node op es plain mode n =
      let e = Node op es in
      let w = span_of ss e in
      let l = low_operands ss op mode 0 n es in
      let k = n + made l.items in
      let last : Bool → Low = λ t. own_low_of t op mode w (has_written es) k l.operands in
      record {
        operand = record { term = (node op mode w (has_written es) k l.operands).term; span = w };
        is = ap (λ (m : Low). m.operands) (low-Node ss e op es mode n refl) ∙ ap (λ (t : Bool). (last t).operands) (sym (set-Node op es) ∙ plain);
        span = refl;
      }

  alone_layer : (y : Expr-F ((e : Expr) × IsAlone e)) → IsAlone (roll-Expr (map-Expr ((e : Expr) × IsAlone e) Expr (λ p. p.0) y))
  alone_layer (Expr-F.Int z) =
      subst IsAlone (sym (rolls-Int z))
      (λ plain mode n. record { operand = record { term = (literal mode n z).term; span = span_of ss (Int z) }; is = ap (λ (m : Low). m.operands) (low-Int ss (Int z) z mode n refl); span = refl })
  alone_layer (Expr-F.Var v) =
      subst IsAlone (sym (rolls-Var v))
      (λ plain mode n. record { operand = record { term = (variable mode n v).term; span = span_of ss (Var v) }; is = ap (λ (m : Low). m.operands) (low-Var ss (Var v) v mode n refl); span = refl })
  alone_layer (Expr-F.Node op ps) = subst IsAlone (sym (rolls-Node op (map (λ p. p.0) ps))) (alone_Node op (map (λ p. p.0) ps))

  pub alone : (e : Expr) → IsAlone e
  alone = ind-Expr IsAlone (λ x y is. subst (λ z. IsAlone (roll-Expr z)) is (alone_layer y))
