-- An expression has the same value wherever its variables have the same, and its value lies within its bounds.
use Rattle.std.proofs.Common.{◌≡◌, ℕ, zero, suc, ◌<◌, ◌≤◌, ℤ, List, [], ◌∷◌, ◌++◌, length, map, take, refl, ap, ap₂, sym, ◌∙◌, subst, arith, All, Ok}
use Rattle.std.proofs.lemmas.List.Elements.{All-tail}
use Rattle.xf_num.specs.Span.{Bounds}
use Rattle.xs_model.specs.declared.expr.Op.{Op}
use Rattle.xs_model.specs.declared.expr.Expr.{Expr, Var, Node, roll-Expr, map-Expr, ind-Expr}
use Rattle.xs_model.specs.declared.expr.Expr.TheVariants.{rolls-Int, rolls-Var, rolls-Node}
use Rattle.xs_model.specs.declared.expr.Expr.TheOpen.{Expr-F}
use Rattle.xs_model.specs.Bounds.{bounds, HasVariable, HasVariables, HasSpans}
use Rattle.xs_model.specs.Shape.{IsShaped}
use Rattle.xs_model.specs.Spans.{AreWithin, BeginsWithin}
use Rattle.xs_model.specs.Value.{Worth, at, val, worth, number, node_worth}
use Rattle.xs_expr.proofs.Every.{every-operands, every-var}
use Rattle.xs_expr.proofs.Layers.{worth-Int, worth-Var, worth-Node}
use Rattle.xs_expr.proofs.Sound.{bounds-sound}
use Rattle.xs_expr.proofs.Within.{IsHeld}
use Rattle.lo_base.proofs.Solving.{at_front}
use Rattle.lo_base.proofs.Within.{Lasts}

-- an expression is worth the same where its variables are
module _ (n : ℕ) (a c : List ℤ) (agree : (k : ℕ) → k < n → at a k ≡ at c k) where
  abbrev Same : Expr → Type 0
  Same e = HasVariables n e → worth a e ≡ worth c e

  operands_same : (ps : List ((e : Expr) × Same e)) → All (HasVariables n) (map (λ p. p.0) ps) → map (worth a) (map (λ p. p.0) ps) ≡ map (worth c) (map (λ p. p.0) ps)
  operands_same [] h = refl
  operands_same (p ∷ ps) h = ap₂ (λ (v : Worth) (vs : List Worth). v ∷ vs) (p.1 (h 0 p.0 (omega arith))) (operands_same ps (All-tail (HasVariables n) p.0 (map (λ q. q.0) ps) h))

  same_Node : (op : Op) (ps : List ((e : Expr) × Same e)) → Same (Node op (map (λ p. p.0) ps))
  same_Node op ps h =
      let es : List Expr = map (λ p. p.0) ps in
      worth-Node a op es ∙ ap (node_worth op) (operands_same ps (every-operands (HasVariable n) (Node op es) op es es refl refl h)) ∙ sym (worth-Node c op es)

  same_layer : (y : Expr-F ((e : Expr) × Same e)) → Same (roll-Expr (map-Expr ((e : Expr) × Same e) Expr (λ p. p.0) y))
  same_layer (Expr-F.Int z) = subst Same (sym (rolls-Int z)) (λ h. worth-Int a z ∙ sym (worth-Int c z))
  same_layer (Expr-F.Var v) = subst Same (sym (rolls-Var v)) (λ h. worth-Var a v ∙ ap number (agree v (every-var (HasVariable n) (Var v) v refl h)) ∙ sym (worth-Var c v))
  same_layer (Expr-F.Node op ps) = subst Same (sym (rolls-Node op (map (λ p. p.0) ps))) (same_Node op ps)

  worth_same : (e : Expr) → Same e
  worth_same = ind-Expr Same (λ x y is. subst (λ z. Same (roll-Expr z)) is (same_layer y))

  value_same : (e : Expr) → HasVariables n e → val a e ≡ val c e
  value_same e h = ap (λ (v : Worth). v.value) (worth_same e h)

taken : (a : List ℤ) (n k : ℕ) → k < n → at (take n a) k ≡ at a k
taken [] zero k lt = refl
taken [] (suc n) k lt = refl
taken (x ∷ a) zero k lt = absurd (omega arith)
taken (x ∷ a) (suc n) zero lt = refl
taken (x ∷ a) (suc n) (suc k) lt = taken a n k (omega arith)

-- where the first values lie within the bounds of the variables, so does the value within the bounds of the expression
pub value_held : (ss : List Bounds) (e : Expr) (b : Bounds) → IsShaped e → HasSpans ss e → bounds ss e ≡ Ok b → (c : List ℤ) → BeginsWithin ss c → IsHeld b (val c e)
value_held ss e b d s is c w =
    let front : List ℤ = take (length ss) c in
    subst (IsHeld b) (value_same (length ss) front c (λ k lt. taken c (length ss) k lt) e s) (bounds-sound ss front w e d s b is).0

-- the first values are the same, whatever comes behind
take_front : (k : ℕ) (a c : List ℤ) → k ≤ length a → take k (a ++ c) ≡ take k a
take_front zero a c h = refl
take_front (suc k) [] c h = absurd (omega (arith, h))
take_front (suc k) (x ∷ a) c h = ap (λ (xs : List ℤ). x ∷ xs) (take_front k a c (omega (arith, h)))

pub begins_within_lasts : (ss : List Bounds) (n : ℕ) → length ss ≤ n → Lasts n (BeginsWithin ss)
begins_within_lasts ss n le = λ a c long w. subst (AreWithin ss) (sym (take_front (length ss) a c (omega (arith, le, long)))) w

-- the value of an expression over the variables before does not hang on later ones
pub value_front : (ss : List Bounds) (e : Expr) (a c : List ℤ) → HasSpans ss e → length ss ≤ length a → val (a ++ c) e ≡ val a e
value_front ss e a c spans le = value_same (length ss) (a ++ c) a (λ k lt. at_front a c k (omega (arith, le, lt))) e spans
