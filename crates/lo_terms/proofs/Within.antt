-- Expressions whose variables are among the first so many.
use Rattle.std.proofs.Common.{◌≡◌, ℕ, ◌+◌, ◌<◌, ℤ, refl, sym, ◌∙◌, ap, subst, List, [], ◌∷◌, map, length, drop, get_or, All}
use Rattle.std.proofs.lemmas.List.{drop_more}
use Rattle.std.proofs.lemmas.List.Elements.{All-cons, All-head, All-tail}
use Rattle.xs_model.specs.Bounds.{HasVariable, HasVariables}
use Rattle.xs_model.specs.declared.expr.Op.{Op}
use Rattle.xs_model.specs.declared.expr.Expr.{Expr, Int, Var, Node, every_made-Expr}
use Rattle.xs_model.specs.declared.expr.Expr.TheVariants.{rolls-Int, rolls-Var, rolls-Node}
use Rattle.xs_model.specs.declared.expr.Expr.TheOpen.{Expr-F}

-- operands, each beside what is proved of it
record Beside (P : Expr → Type 0) (es : List Expr) : Type 0 where
  pairs : List ((e : Expr) × P e)
  same : map (λ (p : (e : Expr) × P e). p.0) pairs ≡ es

beside : (P : Expr → Type 0) (es : List Expr) → All P es → Beside P es
beside P [] h = record { pairs = []; same = refl }
beside P (e ∷ es) h =
    let below = beside P es (All-tail P e es h) in
    record { pairs = (e, All-head P e es h) ∷ below.pairs; same = ap (λ (xs : List Expr). e ∷ xs) below.same }

pub within-int : (n : ℕ) (e : Expr) (z : ℤ) → e ≡ Int z → HasVariables n e
within-int n e z is = subst (HasVariables n) (rolls-Int z ∙ sym is) (every_made-Expr (HasVariable n) (Expr-F.Int z) (Expr-F.Int z) refl tt)

pub within-var : (n : ℕ) (e : Expr) (v : ℕ) → e ≡ Var v → v < n → HasVariables n e
within-var n e v is lt = subst (HasVariables n) (rolls-Var v ∙ sym is) (every_made-Expr (HasVariable n) (Expr-F.Var v) (Expr-F.Var v) refl lt)

pub within-node : (n : ℕ) (e : Expr) (op : Op) (es ds : List Expr) → e ≡ Node op es → ds ≡ es → All (HasVariables n) ds → HasVariables n e
within-node n e op es ds is same all =
    let b = beside (HasVariables n) es (subst (All (HasVariables n)) same all) in
    subst (HasVariables n) (rolls-Node op es ∙ sym is) (every_made-Expr (HasVariable n) (Expr-F.Node op es) (Expr-F.Node op b.pairs) (ap (Expr-F.Node op) b.same) tt)

-- operands from place i on
pub within-more : (n i : ℕ) (es : List Expr) (e : Expr) → i < length es → e ≡ get_or es i e → HasVariables n e → All (HasVariables n) (drop (i + 1) es) → All (HasVariables n) (drop i es)
within-more n i es e lt is h all =
    subst (All (HasVariables n)) (sym (drop_more es i e lt ∙ ap (λ (d : Expr). d ∷ drop (i + 1) es) (sym is))) (All-cons (HasVariables n) e (drop (i + 1) es) h all)
