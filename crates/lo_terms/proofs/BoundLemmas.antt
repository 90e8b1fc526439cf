-- The bounds of a node from those of its operands.
use Rattle.std.proofs.Common.{◌≡◌, ℕ, suc, ◌+◌, ◌<◌, List, ◌∷◌, length, drop, get_or, map, refl, ap, sym, ◌∙◌, arith, Result, Ok, Err}
use Rattle.std.proofs.lemmas.List.{drop_more}
use Rattle.xf_num.specs.Span.{Bounds}
use Rattle.xf_text.specs.declared.fault.Kind.{Kind}
use Rattle.xs_expr.specs.declared.limits.Operands.{Operands}
use Rattle.xs_expr.specs.Operands.{gathered_of, none, node_of, pushed}
use Rattle.xs_expr.proofs.Gathered.{gathered-node}
use Rattle.xs_expr.proofs.Layers.{bounds-Node}
use Rattle.xs_model.specs.Bounds.{bounds, bounds_step, limited, operand, all_ok, and_then, node_bounds, prepended}
use Rattle.xs_model.specs.declared.expr.Op.{Op}
use Rattle.xs_model.specs.declared.expr.Expr.{Expr, Var, Node, fold-roll-Expr}
use Rattle.xs_model.specs.declared.expr.Expr.TheVariants.{rolls-Var}
use Rattle.xs_model.specs.declared.expr.Expr.TheOpen.{Expr-F}
use Rattle.lo_terms.specs.Gathered.{with_next, with_all}

of-node : (op : Op) (r : Result (List Bounds) Kind) → and_then (gathered_of op 0 none r) (node_of op) ≡ and_then r (node_bounds op)
of-node op (Ok bs) = gathered-node bs op
of-node op (Err k) = refl

-- what is gathered gives the bounds of the node
pub node-bounds : (ss : List Bounds) (e : Expr) (op : Op) (es ds : List Expr) (g : Result Operands Kind) (b : Result Bounds Kind) → e ≡ Node op es → ds ≡ es
    → g ≡ gathered_of op 0 none (all_ok (map (bounds ss) ds)) → b ≡ and_then g (node_of op) → b ≡ bounds ss e
node-bounds ss e op es ds g b is same gathered own =
    own ∙ ap (λ (r : Result Operands Kind). and_then r (node_of op)) gathered
    ∙ of-node op (all_ok (map (bounds ss) ds))
    ∙ ap (λ (xs : List Expr). and_then (all_ok (map (bounds ss) xs)) (node_bounds op)) same
    ∙ sym (bounds-Node ss op es) ∙ ap (bounds ss) (sym is)

pushed-first : (op : Op) (k : ℕ) (s : Operands) (b : Bounds) (r : Result (List Bounds) Kind) → gathered_of op (suc k) (pushed op k s b) r ≡ gathered_of op k s (prepended b r)
pushed-first op k s b (Ok bs) = refl
pushed-first op k s b (Err fault) = refl

one-more : (op : Op) (k : ℕ) (g : Result Operands Kind) (r : Result Bounds Kind) (rs : List (Result Bounds Kind)) → with_all op (suc k) (with_next op k g r) (all_ok rs) ≡ with_all op k g (all_ok (r ∷ rs))
one-more op k (Err fault) r rs = refl
one-more op k (Ok s) (Err fault) rs = refl
one-more op k (Ok s) (Ok b) rs = pushed-first op k s b (all_ok rs)

-- one operand, and then those behind it
pub bounds-more : (op : Op) (ss : List Bounds) (es : List Expr) (k : ℕ) (e : Expr) (g h : Result Operands Kind) (r : Result Bounds Kind) → k < length es → e ≡ get_or es k e
    → h ≡ with_next op k g r → r ≡ bounds ss e → with_all op (k + 1) h (all_ok (map (bounds ss) (drop (k + 1) es))) ≡ with_all op k g (all_ok (map (bounds ss) (drop k es)))
bounds-more op ss es k e g h r lt is next own =
    let rest : List Expr = drop (k + 1) es in
    let at : k + 1 ≡ suc k = omega arith in
    ap (λ (j : ℕ). with_all op j h (all_ok (map (bounds ss) rest))) at
    ∙ ap (λ (x : Result Operands Kind). with_all op (suc k) x (all_ok (map (bounds ss) rest))) next
    ∙ one-more op k g r (map (bounds ss) rest)
    ∙ ap (λ (x : Result Bounds Kind). with_all op k g (all_ok (x ∷ map (bounds ss) rest))) own
    ∙ ap (λ (xs : List Expr). with_all op k g (all_ok (map (bounds ss) xs))) (sym (drop_more es k e lt ∙ ap (λ (d : Expr). d ∷ rest) (sym is)))

-- the bounds of a variable
pub variable-bounds : (ss : List Bounds) (e : Expr) (v : ℕ) (b : Bounds) → e ≡ Var v → b ≡ operand ss v → limited b ≡ bounds ss e
variable-bounds ss e v b is read =
    ap limited read ∙ sym (fold-roll-Expr (Result Bounds Kind) (bounds_step ss) (Expr-F.Var v)) ∙ ap (bounds ss) (rolls-Var v ∙ sym is)
