-- Which expressions are well formed (XCSP3-core, the operands of the operators of expressions).
use Rattle.std.specs.Prelude.{◌≡◌, ℕ, ◌≤◌, ℤ, pos, ◌≤ℤ◌, List, [], ◌∷◌, length, Bool, true, false, ⊤}
use Rattle.xs_model.specs.declared.expr.Op.{Op}
use Rattle.xs_model.specs.declared.expr.Op.TheVariants.{Neg, Abs, Sqr, Add, Mul, Sub, Dist, Div, Mod, Pow, Min, Max, Lt, Le, Gt, Ge, Ne, Eq, Set, In, NotIn, Not, And, Or, Xor, Iff, Imp, If}
use Rattle.xs_model.specs.declared.expr.Expr.{Expr, out-Expr}
use Rattle.xs_model.specs.declared.expr.Expr.TheOpen.{Expr-F}
use Rattle.xs_model.specs.declared.expr.Expr.TheFolds.{every-Expr}

-- so many operands an operator takes
abbrev pub IsCount : Op → ℕ → Type 0
IsCount Neg n = n ≡ 1
IsCount Abs n = n ≡ 1
IsCount Sqr n = n ≡ 1
IsCount Add n = 2 ≤ n
IsCount Mul n = 2 ≤ n
IsCount Sub n = n ≡ 2
IsCount Dist n = n ≡ 2
IsCount Div n = n ≡ 2
IsCount Mod n = n ≡ 2
IsCount Pow n = n ≡ 2
IsCount Min n = 2 ≤ n
IsCount Max n = 2 ≤ n
IsCount Lt n = n ≡ 2
IsCount Le n = n ≡ 2
IsCount Gt n = n ≡ 2
IsCount Ge n = n ≡ 2
IsCount Ne n = n ≡ 2
IsCount Eq n = 2 ≤ n
IsCount Set n = ⊤
IsCount In n = n ≡ 2
IsCount NotIn n = n ≡ 2
IsCount Not n = n ≡ 1
IsCount And n = 2 ≤ n
IsCount Or n = 2 ≤ n
IsCount Xor n = 2 ≤ n
IsCount Iff n = n ≡ 2
IsCount Imp n = n ≡ 2
IsCount If n = n ≡ 3

abbrev pub is_set_operator : Op → Bool
is_set_operator Set = true
is_set_operator op = false

abbrev pub is_set_layer : Expr-F Expr → Bool
is_set_layer (Expr-F.Int z) = false
is_set_layer (Expr-F.Var v) = false
is_set_layer (Expr-F.Node op es) = is_set_operator op

-- the expression is a set
abbrev pub is_set : Expr → Bool
is_set e = is_set_layer (out-Expr e)

-- an exponent is from 1 to 64
pub record IsExponent (z : ℤ) : Type 0 where
  pub least : pos 1 ≤ℤ z
  pub greatest : z ≤ℤ pos 64

abbrev pub IsExponentLayer : Expr-F Expr → Type 0
IsExponentLayer (Expr-F.Int z) = IsExponent z
IsExponentLayer (Expr-F.Var v) = ⊥
IsExponentLayer (Expr-F.Node op es) = ⊥

-- none of the expressions is a set
abbrev pub AreNoSets : List Expr → Type 0
AreNoSets [] = ⊤
AreNoSets (e ∷ es) = (is_set e ≡ false) × AreNoSets es

-- a set is the second operand of `in` and `notin`, and nothing else is a set
abbrev pub IsMembership : List Expr → Type 0
IsMembership [] = ⊥
IsMembership (e ∷ []) = ⊥
IsMembership (e ∷ s ∷ []) = (is_set e ≡ false) × (is_set s ≡ true)
IsMembership (e ∷ s ∷ f ∷ es) = ⊥

-- a literal exponent is the second operand of `pow`
abbrev pub IsPower : List Expr → Type 0
IsPower [] = ⊥
IsPower (e ∷ []) = ⊥
IsPower (e ∷ k ∷ []) = (is_set e ≡ false) × IsExponentLayer (out-Expr k)
IsPower (e ∷ k ∷ f ∷ es) = ⊥

-- what stands where among the operands
abbrev pub ArePlaced : Op → List Expr → Type 0
ArePlaced In es = IsMembership es
ArePlaced NotIn es = IsMembership es
ArePlaced Pow es = IsPower es
ArePlaced op es = AreNoSets es

-- one node is well formed
abbrev pub HasShape : Expr-F Expr → Type 0
HasShape (Expr-F.Int z) = ⊤
HasShape (Expr-F.Var v) = ⊤
HasShape (Expr-F.Node op es) = IsCount op (length es) × ArePlaced op es

-- every node is well formed
abbrev pub IsShaped : Expr → Type 0
IsShaped e = every-Expr HasShape e
