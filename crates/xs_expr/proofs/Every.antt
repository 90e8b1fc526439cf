-- What a fact of every node says at one node, and of its operands.
use Rattle.std.proofs.Common.{◌≡◌, ℕ, ◌+◌, ◌<◌, ℤ, refl, ◌∙◌, sym, ap, subst, List, [], ◌∷◌, map, length, drop, get_or, arith, rules, All}
use Rattle.std.proofs.lemmas.List.{drop_more}
use Rattle.std.proofs.lemmas.List.Elements.{All-cons, All-head, All-tail}
use Rattle.xs_model.specs.declared.expr.Op.{Op}
use Rattle.xs_model.specs.declared.expr.Expr.{Expr, Int, Var, Node, out-Expr, the_lemmas, map-Expr, every-Expr, every_here-Expr, every_held-Expr, every_made-Expr}
use Rattle.xs_model.specs.declared.expr.Expr.TheVariants.{rolls-Int, rolls-Var, rolls-Node}
use Rattle.xs_model.specs.declared.expr.Expr.TheOpen.{Expr-F}

-- what is proved beside each member holds of each member
All-beside : {X : Type 0} (P : X → Type 0) (ps : List ((x : X) × P x)) → All P (map (λ p. p.0) ps)
All-beside P [] = λ k d h. absurd (omega arith)
All-beside P (p ∷ ps) = All-cons P p.0 (map (λ q. q.0) ps) p.1 (All-beside P ps)

-- operands, each beside what is proved of it
record Beside (P : Expr → Type 0) (es : List Expr) : Type 0 where
  pairs : List ((e : Expr) × P e)
  same : map (λ (p : (e : Expr) × P e). p.0) pairs ≡ es

beside : (P : Expr → Type 0) (es : List Expr) → All P es → Beside P es
beside P [] h = record { pairs = []; same = refl }
beside P (e ∷ es) h =
    let below = beside P es (All-tail P e es h) in
    record { pairs = (e, All-head P e es h) ∷ below.pairs; same = ap (λ (xs : List Expr). e ∷ xs) below.same }

module _ (Q : Expr-F Expr → Type 0) where
  held : (op : Op) (es : List Expr) (x : Expr-F ((e : Expr) × every-Expr Q e)) → map-Expr ((e : Expr) × every-Expr Q e) Expr (λ p. p.0) x ≡ Expr-F.Node op es → All (every-Expr Q) es
  held op es (Expr-F.Int z) h = cc
  held op es (Expr-F.Var n) h = cc
  held op es (Expr-F.Node op' ps) h = let e : map (λ (p : (e : Expr) × every-Expr Q e). p.0) ps ≡ es = cc in subst (All (every-Expr Q)) e (All-beside (every-Expr Q) ps)

  pub every-operands : (e : Expr) (op : Op) (es ys : List Expr) → e ≡ Node op es → ys ≡ es → every-Expr Q e → All (every-Expr Q) ys
  every-operands e op es ys is seen h =
      let here : out-Expr (Node op es) ≡ Expr-F.Node op es = search (rules, the_lemmas) in
      let inside = every_held-Expr Q e h in
      subst (All (every-Expr Q)) (sym seen) (held op es inside.0 (inside.1 ∙ (ap out-Expr is ∙ here)))

  pub every-node : (e : Expr) (op : Op) (es : List Expr) → e ≡ Node op es → every-Expr Q e → Q (Expr-F.Node op es)
  every-node e op es is h =
      let here : out-Expr (Node op es) ≡ Expr-F.Node op es = search (rules, the_lemmas) in
      subst Q (ap out-Expr is ∙ here) (every_here-Expr Q e h)

  pub every-var : (e : Expr) (n : ℕ) → e ≡ Var n → every-Expr Q e → Q (Expr-F.Var n)
  every-var e n is h =
      let here : out-Expr (Var n) ≡ Expr-F.Var n = search (rules, the_lemmas) in
      subst Q (ap out-Expr is ∙ here) (every_here-Expr Q e h)

  -- it is a fact of every node where it is one of the root and of every node of the operands
  pub made-int : (e : Expr) (z : ℤ) → e ≡ Int z → Q (Expr-F.Int z) → every-Expr Q e
  made-int e z is h = subst (every-Expr Q) (rolls-Int z ∙ sym is) (every_made-Expr Q (Expr-F.Int z) (Expr-F.Int z) refl h)

  pub made-var : (e : Expr) (n : ℕ) → e ≡ Var n → Q (Expr-F.Var n) → every-Expr Q e
  made-var e n is h = subst (every-Expr Q) (rolls-Var n ∙ sym is) (every_made-Expr Q (Expr-F.Var n) (Expr-F.Var n) refl h)

  pub made-node : (e : Expr) (op : Op) (es ys : List Expr) → e ≡ Node op es → ys ≡ es → Q (Expr-F.Node op es) → All (every-Expr Q) ys → every-Expr Q e
  made-node e op es ys is seen h all =
      let b = beside (every-Expr Q) es (subst (All (every-Expr Q)) seen all) in
      subst (every-Expr Q) (rolls-Node op es ∙ sym is) (every_made-Expr Q (Expr-F.Node op es) (Expr-F.Node op b.pairs) (ap (Expr-F.Node op) b.same) h)

  -- operands from place i on
  pub made-more : (i : ℕ) (es : List Expr) (e : Expr) → i < length es → e ≡ get_or es i e → every-Expr Q e → All (every-Expr Q) (drop (i + 1) es) → All (every-Expr Q) (drop i es)
  made-more i es e lt is h all =
      subst (All (every-Expr Q)) (sym (drop_more es i e lt ∙ ap (λ (d : Expr). d ∷ drop (i + 1) es) (sym is))) (All-cons (every-Expr Q) e (drop (i + 1) es) h all)
