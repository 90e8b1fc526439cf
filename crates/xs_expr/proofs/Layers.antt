-- What the bounds and the value of each kind of expression are.
use Rattle.std.proofs.Common.{◌≡◌, ℕ, ℤ, refl, ◌∙◌, ap, List, [], ◌∷◌, ◌++◌, append_assoc, map, codes, rules}
use Rattle.xf_num.specs.Span.{Bounds}
use Rattle.xs_model.specs.declared.expr.Op.{Op}
use Rattle.xs_model.specs.declared.expr.Op.TheVariants.{Neg, Abs, Sqr, Add, Mul, Sub, Dist, Div, Mod, Pow, Min, Max, Lt, Le, Gt, Ge, Ne, Eq, Set, In, NotIn, Not, And, Or, Xor, Iff, Imp, If}
use Rattle.xs_model.specs.declared.expr.Expr.{Expr, Int, Var, Node, the_lemmas}
use Rattle.xs_expr.specs.Text.{joined_from, name_of, written}
use Rattle.xs_model.specs.Value.{Worth, val, worth, at, number, apply, node_worth, values_of, second_members}
use Rattle.xs_model.specs.Bounds.{bounds, limited, exactly, operand, all_ok, and_then, node_bounds}

pub bounds-Int : (ss : List Bounds) (z : ℤ) → bounds ss (Int z) ≡ limited (exactly z)
bounds-Int ss z = search (rules, the_lemmas)

pub bounds-Var : (ss : List Bounds) (v : ℕ) → bounds ss (Var v) ≡ limited (operand ss v)
bounds-Var ss v = search (rules, the_lemmas)

pub bounds-Node : (ss : List Bounds) (op : Op) (es : List Expr) → bounds ss (Node op es) ≡ and_then (all_ok (map (bounds ss) es)) (node_bounds op)
bounds-Node ss op es = search (rules, the_lemmas)

pub worth-Int : (a : List ℤ) (z : ℤ) → worth a (Int z) ≡ number z
worth-Int a z = search (rules, the_lemmas)

pub worth-Var : (a : List ℤ) (v : ℕ) → worth a (Var v) ≡ number (at a v)
worth-Var a v = search (rules, the_lemmas)

pub worth-Node : (a : List ℤ) (op : Op) (es : List Expr) → worth a (Node op es) ≡ node_worth op (map (worth a) es)
worth-Node a op es = search (rules, the_lemmas)

-- the values of the operands
pub values-are : (a : List ℤ) (es : List Expr) → values_of (map (worth a) es) ≡ map (val a) es
values-are a [] = refl
values-are a (e ∷ es) = ap (λ (xs : List ℤ). val a e ∷ xs) (values-are a es)

pub node_worth-value : (op : Op) (ws : List Worth) → (node_worth op ws).value ≡ apply op (values_of ws) (second_members ws)
node_worth-value Neg ws = refl
node_worth-value Abs ws = refl
node_worth-value Sqr ws = refl
node_worth-value Add ws = refl
node_worth-value Mul ws = refl
node_worth-value Sub ws = refl
node_worth-value Dist ws = refl
node_worth-value Div ws = refl
node_worth-value Mod ws = refl
node_worth-value Pow ws = refl
node_worth-value Min ws = refl
node_worth-value Max ws = refl
node_worth-value Lt ws = refl
node_worth-value Le ws = refl
node_worth-value Gt ws = refl
node_worth-value Ge ws = refl
node_worth-value Ne ws = refl
node_worth-value Eq ws = refl
node_worth-value Set ws = refl
node_worth-value In ws = refl
node_worth-value NotIn ws = refl
node_worth-value Not ws = refl
node_worth-value And ws = refl
node_worth-value Or ws = refl
node_worth-value Xor ws = refl
node_worth-value Iff ws = refl
node_worth-value Imp ws = refl
node_worth-value If ws = refl

-- the value of a node
pub val-Node : (a : List ℤ) (op : Op) (es : List Expr) → val a (Node op es) ≡ apply op (map (val a) es) (second_members (map (worth a) es))
val-Node a op es =
    ap (λ (w : Worth). w.value) (worth-Node a op es)
    ∙ node_worth-value op (map (worth a) es)
    ∙ ap (λ (xs : List ℤ). apply op xs (second_members (map (worth a) es))) (values-are a es)

-- the members of a set
pub members-Set : (a : List ℤ) (es : List Expr) → (worth a (Node Set es)).members ≡ map (val a) es
members-Set a es = ap (λ (w : Worth). w.members) (worth-Node a Set es) ∙ values-are a es

-- the text of a node
pub written-Node : (words : List (List ℕ)) (op : Op) (es : List Expr) → written words (Node op es) ≡ name_of op ++ (codes "(" ++ (joined_from [] (map (written words) es) ++ codes ")"))
written-Node words op es = search (rules, the_lemmas)

pub regrouped : (o n p j q : List ℕ) → ((o ++ (n ++ p)) ++ j) ++ q ≡ o ++ (n ++ (p ++ (j ++ q)))
regrouped o n p j q = simp append_assoc
