-- The magnitudes of an expression's nodes, counted operand by operand.
use Rattle.std.proofs.Common.{◌≡◌, ℕ, zero, suc, ◌+◌, ◌<◌, refl, sym, ◌∙◌, ap, List, [], ◌∷◌, ◌++◌, map, take, drop, length, get_or, append_assoc, arith, Result, Ok, Err, IsOk}
use Rattle.std.proofs.Math.Seq.{drop-cons}
use Rattle.std.proofs.lemmas.List.{append-nil}
use Rattle.xf_num.specs.Span.{Bounds}
use Rattle.xf_text.specs.declared.fault.Kind.{Kind}
use Rattle.xs_model.specs.declared.expr.Op.{Op}
use Rattle.xs_model.specs.declared.expr.Expr.{Expr}
use Rattle.xs_expr.specs.declared.limits.Operands.{Operands}
use Rattle.xs_judge.specs.declared.nodes.Counted.{Counted}
use Rattle.xs_model.specs.Bounds.{all_ok, prepended}
use Rattle.xs_model.specs.Magnitude.{Weight, weighed, bounds_below, nodes_below}
use Rattle.xs_expr.specs.Operands.{pushed, gathered_of}
use Rattle.xs_judge.specs.Weights.{totalled, counted_of, counted_as}

-- what was counted of an expression
abbrev span_ok : Counted → Result Bounds Kind
span_ok c = Ok c.span

as-counted : (r : Result Bounds Kind) (ms : List ℕ) (n : Counted) → counted_as r ms ≡ Ok n → (r ≡ Ok n.span) × (n.total ≡ totalled ms)
as-counted (Ok b) ms n h =
    let is : record { span = b; total = totalled ms } ≡ n = cc in
    (ap (λ (c : Counted). span_ok c) is, sym (ap (λ (c : Counted). c.total) is))
as-counted (Err k) ms n h = cc

pub counted-is : (w : Weight) (n : Counted) → counted_of w ≡ Ok n → (w.bounds ≡ Ok n.span) × (n.total ≡ totalled w.nodes)
counted-is w n h = as-counted w.bounds w.nodes n h

-- a fault of an expression is none of its count
pub fault-is : (r : Result Bounds Kind) (ms : List ℕ) (k : Kind) → counted_as r ms ≡ Err k → r ≡ Err k
fault-is (Ok b) ms k h = cc
fault-is (Err j) ms k h = cc

pub no-fault : (r : Result Bounds Kind) (k : Kind) → r ≡ Err k → IsOk r → ⊥
no-fault (Ok b) k e h = cc
no-fault (Err j) k e h = cc

-- one operand more
next-nodes : (ss : List Bounds) (es : List Expr) (k : ℕ) (e : Expr) → k < length es → e ≡ get_or es k e → nodes_below (map (weighed ss) (take (suc k) es)) ≡ nodes_below (map (weighed ss) (take k es)) ++ (weighed ss e).nodes
next-nodes ss [] k e h is = absurd (omega arith)
next-nodes ss (x ∷ es) zero e h is = append-nil (weighed ss x).nodes ∙ ap (λ (y : Expr). (weighed ss y).nodes) (sym is)
next-nodes ss (x ∷ es) (suc k) e h is =
    ap (λ (ms : List ℕ). (weighed ss x).nodes ++ ms) (next-nodes ss es k e (omega arith) is)
    ∙ sym (append_assoc (weighed ss x).nodes (nodes_below (map (weighed ss) (take k es))) (weighed ss e).nodes)

pub nodes-next : (ss : List Bounds) (es : List Expr) (k : ℕ) (e : Expr) → k < length es → e ≡ get_or es k e → nodes_below (map (weighed ss) (take (k + 1) es)) ≡ nodes_below (map (weighed ss) (take k es)) ++ (weighed ss e).nodes
nodes-next ss es k e h is =
    let place : k + 1 ≡ suc k = omega arith in
    ap (λ (n : ℕ). nodes_below (map (weighed ss) (take n es))) place ∙ next-nodes ss es k e h is

pushed-first : (op : Op) (k : ℕ) (s : Operands) (b : Bounds) (r : Result (List Bounds) Kind) → gathered_of op (suc k) (pushed op k s b) r ≡ gathered_of op k s (prepended b r)
pushed-first op k s b (Ok bs) = refl
pushed-first op k s b (Err j) = refl

pub operands-next : (op : Op) (ss : List Bounds) (es : List Expr) (k : ℕ) (e : Expr) (b : Bounds) (s : Operands) → k < length es → e ≡ get_or es k e → (weighed ss e).bounds ≡ Ok b
    → gathered_of op (k + 1) (pushed op k s b) (all_ok (bounds_below (map (weighed ss) (drop (k + 1) es)))) ≡ gathered_of op k s (all_ok (bounds_below (map (weighed ss) (drop k es))))
operands-next op ss es k e b s h is own =
    let place : k + 1 ≡ suc k = omega arith in
    let rest = all_ok (bounds_below (map (weighed ss) (drop (suc k) es))) in
    let split : bounds_below (map (weighed ss) (drop k es)) ≡ Ok b ∷ bounds_below (map (weighed ss) (drop (suc k) es)) =
    ap (λ (fs : List Expr). bounds_below (map (weighed ss) fs)) (drop-cons es k e h)
    ∙ ap (λ (f : Expr). (weighed ss f).bounds ∷ bounds_below (map (weighed ss) (drop (suc k) es))) (sym is)
    ∙ ap (λ (r : Result Bounds Kind). r ∷ bounds_below (map (weighed ss) (drop (suc k) es))) own in
    ap (λ (n : ℕ). gathered_of op n (pushed op k s b) (all_ok (bounds_below (map (weighed ss) (drop n es))))) place
    ∙ pushed-first op k s b rest
    ∙ ap (λ (rs : List (Result Bounds Kind)). gathered_of op k s (all_ok rs)) (sym split)
