-- The tests of a node's operands are what is asked of them.
use Rattle.std.proofs.Common.{◌≡◌, ℕ, suc, ◌+◌, ◌<◌, ℤ, refl, sym, ◌∙◌, ap, subst, List, [], ◌∷◌, length, drop, get_or, drop-cons, Bool, true, false, ◌&&◌, not, rules, arith, All}
use Rattle.std.proofs.lemmas.List.Elements.{All-tail}
use Rattle.xs_model.specs.declared.expr.Op.{Op}
use Rattle.xs_model.specs.declared.expr.Op.TheVariants.{Neg, Abs, Sqr, Add, Mul, Sub, Dist, Div, Mod, Pow, Min, Max, Lt, Le, Gt, Ge, Ne, Eq, Set, In, NotIn, Not, And, Or, Xor, Iff, Imp, If}
use Rattle.xs_model.specs.declared.expr.Expr.{Expr, Node, out-Expr, roll-Expr, every_made-Expr}
use Rattle.xs_model.specs.declared.expr.Expr.TheOpen.{Expr-F}
use Rattle.xs_model.specs.Shape.{IsCount, IsExponentLayer, AreNoSets, IsMembership, IsPower, ArePlaced, HasShape, IsShaped, is_set}
use Rattle.xs_expr.specs.Shaped.{is_count, is_exponent_layer, is_exponent, is_membership, is_power, are_no_sets, are_placed}
use Rattle.xs_expr.proofs.Every.{made-node}

both-left : (a b : Bool) → (a && b) ≡ true → a ≡ true
both-left true b h = refl
both-left false b h = cc

both-right : (a b : Bool) → (a && b) ≡ true → b ≡ true
both-right true b h = h
both-right false b h = cc

both : (a b : Bool) → a ≡ true → b ≡ true → (a && b) ≡ true
both a b g h = ap (λ (t : Bool). t && b) g ∙ h

not-is : (a : Bool) → not a ≡ true → a ≡ false
not-is true h = cc
not-is false h = refl

is-not : (a : Bool) → a ≡ false → not a ≡ true
is-not a h = ap not h

exponent-is : (x : Expr-F Expr) → is_exponent_layer x ≡ true → IsExponentLayer x
exponent-is (Expr-F.Int z) h = search rules
exponent-is (Expr-F.Var v) h = cc
exponent-is (Expr-F.Node op es) h = cc

is-exponent : (x : Expr-F Expr) → IsExponentLayer x → is_exponent_layer x ≡ true
is-exponent (Expr-F.Int z) h = let l = h.least in let g = h.greatest in search rules
is-exponent (Expr-F.Var v) h = absurd h
is-exponent (Expr-F.Node op es) h = absurd h

no-sets-are : (es : List Expr) → are_no_sets es ≡ true → AreNoSets es
no-sets-are [] h = tt
no-sets-are (e ∷ es) h = (not-is (is_set e) (both-left (not (is_set e)) (are_no_sets es) h), no-sets-are es (both-right (not (is_set e)) (are_no_sets es) h))

are-no-sets : (es : List Expr) → AreNoSets es → are_no_sets es ≡ true
are-no-sets [] h = refl
are-no-sets (e ∷ es) h = both (not (is_set e)) (are_no_sets es) (is-not (is_set e) h.0) (are-no-sets es h.1)

membership-is : (es : List Expr) → is_membership es ≡ true → IsMembership es
membership-is [] h = cc
membership-is (e ∷ []) h = cc
membership-is (e ∷ s ∷ []) h = (not-is (is_set e) (both-left (not (is_set e)) (is_set s) h), both-right (not (is_set e)) (is_set s) h)
membership-is (e ∷ s ∷ f ∷ es) h = cc

is-membership : (es : List Expr) → IsMembership es → is_membership es ≡ true
is-membership [] h = absurd h
is-membership (e ∷ []) h = absurd h
is-membership (e ∷ s ∷ []) h = both (not (is_set e)) (is_set s) (is-not (is_set e) h.0) h.1
is-membership (e ∷ s ∷ f ∷ es) h = absurd h

power-is : (es : List Expr) → is_power es ≡ true → IsPower es
power-is [] h = cc
power-is (e ∷ []) h = cc
power-is (e ∷ k ∷ []) h = (not-is (is_set e) (both-left (not (is_set e)) (is_exponent k) h), exponent-is (out-Expr k) (both-right (not (is_set e)) (is_exponent k) h))
power-is (e ∷ k ∷ f ∷ es) h = cc

is-power : (es : List Expr) → IsPower es → is_power es ≡ true
is-power [] h = absurd h
is-power (e ∷ []) h = absurd h
is-power (e ∷ k ∷ []) h = both (not (is_set e)) (is_exponent k) (is-not (is_set e) h.0) (is-exponent (out-Expr k) h.1)
is-power (e ∷ k ∷ f ∷ es) h = absurd h

pub count-is : (op : Op) (n : ℕ) → is_count op n ≡ true → IsCount op n
count-is Neg n h = search rules
count-is Abs n h = search rules
count-is Sqr n h = search rules
count-is Add n h = search rules
count-is Mul n h = search rules
count-is Sub n h = search rules
count-is Dist n h = search rules
count-is Div n h = search rules
count-is Mod n h = search rules
count-is Pow n h = search rules
count-is Min n h = search rules
count-is Max n h = search rules
count-is Lt n h = search rules
count-is Le n h = search rules
count-is Gt n h = search rules
count-is Ge n h = search rules
count-is Ne n h = search rules
count-is Eq n h = search rules
count-is Set n h = tt
count-is In n h = search rules
count-is NotIn n h = search rules
count-is Not n h = search rules
count-is And n h = search rules
count-is Or n h = search rules
count-is Xor n h = search rules
count-is Iff n h = search rules
count-is Imp n h = search rules
count-is If n h = search rules

pub is-count : (op : Op) (n : ℕ) → IsCount op n → is_count op n ≡ true
is-count Neg n h = search rules
is-count Abs n h = search rules
is-count Sqr n h = search rules
is-count Add n h = search rules
is-count Mul n h = search rules
is-count Sub n h = search rules
is-count Dist n h = search rules
is-count Div n h = search rules
is-count Mod n h = search rules
is-count Pow n h = search rules
is-count Min n h = search rules
is-count Max n h = search rules
is-count Lt n h = search rules
is-count Le n h = search rules
is-count Gt n h = search rules
is-count Ge n h = search rules
is-count Ne n h = search rules
is-count Eq n h = search rules
is-count Set n h = refl
is-count In n h = search rules
is-count NotIn n h = search rules
is-count Not n h = search rules
is-count And n h = search rules
is-count Or n h = search rules
is-count Xor n h = search rules
is-count Iff n h = search rules
is-count Imp n h = search rules
is-count If n h = search rules

pub placed-are : (op : Op) (es : List Expr) → are_placed op es ≡ true → ArePlaced op es
placed-are Neg es h = no-sets-are es h
placed-are Abs es h = no-sets-are es h
placed-are Sqr es h = no-sets-are es h
placed-are Add es h = no-sets-are es h
placed-are Mul es h = no-sets-are es h
placed-are Sub es h = no-sets-are es h
placed-are Dist es h = no-sets-are es h
placed-are Div es h = no-sets-are es h
placed-are Mod es h = no-sets-are es h
placed-are Pow es h = power-is es h
placed-are Min es h = no-sets-are es h
placed-are Max es h = no-sets-are es h
placed-are Lt es h = no-sets-are es h
placed-are Le es h = no-sets-are es h
placed-are Gt es h = no-sets-are es h
placed-are Ge es h = no-sets-are es h
placed-are Ne es h = no-sets-are es h
placed-are Eq es h = no-sets-are es h
placed-are Set es h = no-sets-are es h
placed-are In es h = membership-is es h
placed-are NotIn es h = membership-is es h
placed-are Not es h = no-sets-are es h
placed-are And es h = no-sets-are es h
placed-are Or es h = no-sets-are es h
placed-are Xor es h = no-sets-are es h
placed-are Iff es h = no-sets-are es h
placed-are Imp es h = no-sets-are es h
placed-are If es h = no-sets-are es h

pub are-placed : (op : Op) (es : List Expr) → ArePlaced op es → are_placed op es ≡ true
are-placed Neg es h = are-no-sets es h
are-placed Abs es h = are-no-sets es h
are-placed Sqr es h = are-no-sets es h
are-placed Add es h = are-no-sets es h
are-placed Mul es h = are-no-sets es h
are-placed Sub es h = are-no-sets es h
are-placed Dist es h = are-no-sets es h
are-placed Div es h = are-no-sets es h
are-placed Mod es h = are-no-sets es h
are-placed Pow es h = is-power es h
are-placed Min es h = are-no-sets es h
are-placed Max es h = are-no-sets es h
are-placed Lt es h = are-no-sets es h
are-placed Le es h = are-no-sets es h
are-placed Gt es h = are-no-sets es h
are-placed Ge es h = are-no-sets es h
are-placed Ne es h = are-no-sets es h
are-placed Eq es h = are-no-sets es h
are-placed Set es h = are-no-sets es h
are-placed In es h = is-membership es h
are-placed NotIn es h = is-membership es h
are-placed Not es h = are-no-sets es h
are-placed And es h = are-no-sets es h
are-placed Or es h = are-no-sets es h
are-placed Xor es h = are-no-sets es h
are-placed Iff es h = are-no-sets es h
are-placed Imp es h = are-no-sets es h
are-placed If es h = are-no-sets es h

-- a node is well formed exactly where the tests say so
pub shape-is : (op : Op) (es : List Expr) → (is_count op (length es) && are_placed op es) ≡ true → HasShape (Expr-F.Node op es)
shape-is op es h = (count-is op (length es) (both-left (is_count op (length es)) (are_placed op es) h), placed-are op es (both-right (is_count op (length es)) (are_placed op es) h))

pub is-shape : (op : Op) (es : List Expr) → HasShape (Expr-F.Node op es) → (is_count op (length es) && are_placed op es) ≡ true
is-shape op es h = both (is_count op (length es)) (are_placed op es) (is-count op (length es) h.0) (are-placed op es h.1)

-- an expression is well formed where its root and its operands are
pub shaped-Int : (z : ℤ) → IsShaped (roll-Expr (Expr-F.Int z))
shaped-Int z = every_made-Expr HasShape (Expr-F.Int z) (Expr-F.Int z) refl tt

pub shaped-Var : (v : ℕ) → IsShaped (roll-Expr (Expr-F.Var v))
shaped-Var v = every_made-Expr HasShape (Expr-F.Var v) (Expr-F.Var v) refl tt

pub shaped-node : (e : Expr) (op : Op) (es : List Expr) → e ≡ Node op es → HasShape (Expr-F.Node op es) → All IsShaped es → IsShaped e
shaped-node e op es is h all = made-node HasShape e op es es is refl h all

rest-at : (i : ℕ) (es : List Expr) (e : Expr) → i < length es → e ≡ get_or es i e → drop i es ≡ e ∷ drop (i + 1) es
rest-at i es e h is =
    let k : i + 1 ≡ suc i = omega arith in
    drop-cons es i e h ∙ ap (λ (x : Expr). x ∷ drop (suc i) es) (sym is) ∙ ap (λ (n : ℕ). e ∷ drop n es) (sym k)

-- operands from place i on, and those behind it
pub shaped-fewer : (i : ℕ) (es : List Expr) (e : Expr) → i < length es → e ≡ get_or es i e → All IsShaped (drop i es) → All IsShaped (drop (i + 1) es)
shaped-fewer i es e h is all = All-tail IsShaped e (drop (i + 1) es) (subst (All IsShaped) (rest-at i es e h is) all)
