-- The first operand of a node, the members of the second, and what is left of a list of values.
use Rattle.std.proofs.Common.{◌≡◌, ℕ, suc, ◌<◌, ℤ, refl, sym, ◌∙◌, ap, subst, List, [], ◌∷◌, map, drop, length, get_or, arith}
use Rattle.std.proofs.Math.Seq.{drop-cons}
use Rattle.xs_model.specs.declared.expr.Op.{Op}
use Rattle.xs_model.specs.declared.expr.Op.TheVariants.{Neg, Abs, Sqr, Add, Mul, Sub, Dist, Div, Mod, Pow, Min, Max, Lt, Le, Gt, Ge, Ne, Eq, Set, In, NotIn, Not, And, Or, Xor, Iff, Imp, If}
use Rattle.xs_model.specs.declared.expr.Expr.{Expr, Int, Var, Node}
use Rattle.xs_model.specs.Value.{Worth, val, worth, at, node_worth, second_members}
use Rattle.xs_expr.specs.declared.worth.Values.{Values}
use Rattle.xs_expr.specs.Worths.{with_value, with_values, StepsFit}
use Rattle.xs_expr.proofs.Layers.{worth-Int, worth-Var, worth-Node, members-Set}

pub first-value : (a : List ℤ) (es : List Expr) (e : Expr) → 0 < length es → e ≡ get_or es 0 e → at (map (val a) es) 0 ≡ val a e
first-value a [] e h is = absurd (omega arith)
first-value a (x ∷ es) e h is = ap (val a) (sym is)

second-worth : (a : List ℤ) (es : List Expr) (e : Expr) → 1 < length es → e ≡ get_or es 1 e → second_members (map (worth a) es) ≡ (worth a e).members
second-worth a [] e h is = absurd (omega arith)
second-worth a (x ∷ []) e h is = absurd (omega arith)
second-worth a (x ∷ y ∷ es) e h is = ap (λ (f : Expr). (worth a f).members) (sym is)

pub members-of-set : (a : List ℤ) (es : List Expr) (e : Expr) (ms : List Expr) → 1 < length es → e ≡ get_or es 1 e → e ≡ Node Set ms → second_members (map (worth a) es) ≡ map (val a) ms
members-of-set a es e ms h is set = second-worth a es e h is ∙ ap (λ (f : Expr). (worth a f).members) set ∙ members-Set a ms

no-members : (op : Op) (ws : List Worth) → (op ≡ Set → ⊥) → (node_worth op ws).members ≡ []
no-members Neg ws h = refl
no-members Abs ws h = refl
no-members Sqr ws h = refl
no-members Add ws h = refl
no-members Mul ws h = refl
no-members Sub ws h = refl
no-members Dist ws h = refl
no-members Div ws h = refl
no-members Mod ws h = refl
no-members Pow ws h = refl
no-members Min ws h = refl
no-members Max ws h = refl
no-members Lt ws h = refl
no-members Le ws h = refl
no-members Gt ws h = refl
no-members Ge ws h = refl
no-members Ne ws h = refl
no-members Eq ws h = refl
no-members Set ws h = absurd (h refl)
no-members In ws h = refl
no-members NotIn ws h = refl
no-members Not ws h = refl
no-members And ws h = refl
no-members Or ws h = refl
no-members Xor ws h = refl
no-members Iff ws h = refl
no-members Imp ws h = refl
no-members If ws h = refl

pub members-of-node : (a : List ℤ) (es : List Expr) (e : Expr) (op : Op) (ms : List Expr) → 1 < length es → e ≡ get_or es 1 e → e ≡ Node op ms → (op ≡ Set → ⊥) → second_members (map (worth a) es) ≡ []
members-of-node a es e op ms h is node other =
    second-worth a es e h is ∙ ap (λ (f : Expr). (worth a f).members) node ∙ ap (λ (w : Worth). w.members) (worth-Node a op ms) ∙ no-members op (map (worth a) ms) other

pub members-of-int : (a : List ℤ) (es : List Expr) (e : Expr) (z : ℤ) → 1 < length es → e ≡ get_or es 1 e → e ≡ Int z → second_members (map (worth a) es) ≡ []
members-of-int a es e z h is int = second-worth a es e h is ∙ ap (λ (f : Expr). (worth a f).members) int ∙ ap (λ (w : Worth). w.members) (worth-Int a z)

pub members-of-var : (a : List ℤ) (es : List Expr) (e : Expr) (v : ℕ) → 1 < length es → e ≡ get_or es 1 e → e ≡ Var v → second_members (map (worth a) es) ≡ []
members-of-var a es e v h is var = second-worth a es e h is ∙ ap (λ (f : Expr). (worth a f).members) var ∙ ap (λ (w : Worth). w.members) (worth-Var a v)

-- the value at a place, and those behind it
pub values-next : (a : List ℤ) (es : List Expr) (k : ℕ) (e : Expr) → k < length es → e ≡ get_or es k e → map (val a) (drop k es) ≡ val a e ∷ map (val a) (drop (suc k) es)
values-next a es k e h is = ap (map (val a)) (drop-cons es k e h) ∙ ap (λ (f : Expr). val a f ∷ map (val a) (drop (suc k) es)) (sym is)

pub steps-next : (op : Op) (k k' : ℕ) (s s' : Values) (xs rest : List ℤ) (x : ℤ) → xs ≡ x ∷ rest → s' ≡ with_value op k s x → k' ≡ suc k → StepsFit op k s xs → StepsFit op k' s' rest
steps-next op k k' s s' xs rest x e es ek h =
    let inside = subst (StepsFit op k s) e h in
    subst (λ (t : Values). StepsFit op k' t rest) (sym es) (subst (λ (n : ℕ). StepsFit op n (with_value op k s x) rest) (sym ek) inside.1)

pub values-with : (op : Op) (k k' : ℕ) (s s' : Values) (xs rest : List ℤ) (x : ℤ) → xs ≡ x ∷ rest → s' ≡ with_value op k s x → k' ≡ suc k → with_values op k' s' rest ≡ with_values op k s xs
values-with op k k' s s' xs rest x e es ek =
    ap (λ (t : Values). with_values op k' t rest) es ∙ ap (λ (n : ℕ). with_values op n (with_value op k s x) rest) ek ∙ ap (with_values op k s) (sym e)
