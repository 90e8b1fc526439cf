-- What the definitions over all forms say of the forms that are built.
use Rattle.std.proofs.Common.{◌≡◌, ℕ, ◌<◌, ℤ, List, [], ◌∷◌, length, map, arith, true, false}
use Rattle.std.specs.List.{AllByRecursion}
use Rattle.std.proofs.lemmas.List.{length-map}
use Rattle.xs_model.specs.declared.expr.Expr.{Expr}
use Rattle.xs_model.specs.declared.instance.Constraint.{Constraint}
use Rattle.xs_model.specs.declared.instance.Constraint.TheVariants.{AllDifferent, Intension}
use Rattle.xs_model.specs.Accepted.{IsFormed, IsMeasured, IsMeasuredForm}
use Rattle.xs_model.specs.Comparing.{AreDifferent, AreDifferentBut}
use Rattle.xs_model.specs.Fields.{Variable}
use Rattle.xs_model.specs.Formed.{IsFormedExpr, IsFormedItem, items_of, nodes}
use Rattle.xf_num.specs.Span.{Bounds}

-- with no exceptions no two values are equal
pub without_exceptions : (xs : List ℤ) → AreDifferentBut [] xs → AreDifferent xs
without_exceptions xs h = λ i j d p q e. let r : false ≡ true = h i j d p q e in cc

pub no_exceptions : (xs : List ℤ) → AreDifferent xs → AreDifferentBut [] xs
no_exceptions xs h = λ i j d p q e. absurd (h i j d p q e)

-- the items of a list are below n where the variables are
pub below_of_items : (n : ℕ) (vs : List ℕ) → AllByRecursion (IsFormedItem n) (map Variable vs) → AllByRecursion (λ v. v < n) vs
below_of_items n [] h = tt
below_of_items n (v ∷ vs) h = (h.0, below_of_items n vs h.1)

pub items_of_below : (n : ℕ) (vs : List ℕ) → AllByRecursion (λ v. v < n) vs → AllByRecursion (IsFormedItem n) (map Variable vs)
items_of_below n [] h = tt
items_of_below n (v ∷ vs) h = (h.0, items_of_below n vs h.1)

pub items-different : (vs : List ℕ) → items_of (AllDifferent vs []) ≡ length vs
items-different vs = omega (arith, length-map vs Variable)

pub items-expression : (e : Expr) → items_of (Intension e) ≡ nodes e
items-expression e = omega arith

-- a list without exceptions is formed where its variables are below n
pub different_formed : (n : ℕ) (vs : List ℕ) → AllByRecursion (λ v. v < n) vs → IsFormed n (AllDifferent vs [])
different_formed n vs h = record { fields = (items_of_below n vs h, (tt, tt)); fitting = tt }

pub different_below : (n : ℕ) (vs : List ℕ) (es : List ℤ) → IsFormed n (AllDifferent vs es) → AllByRecursion (λ v. v < n) vs
different_below n vs es h = below_of_items n vs h.fields.0

pub expression_formed : (n : ℕ) (e : Expr) → IsFormedExpr n e → IsFormed n (Intension e)
expression_formed n e h = record { fields = (h, tt); fitting = tt }

pub formed_expression : (n : ℕ) (e : Expr) → IsFormed n (Intension e) → IsFormedExpr n e
formed_expression n e h = h.fields.0

pub measured_form : (ss : List Bounds) (c : Constraint) → IsMeasured ss c → IsMeasuredForm ss c
measured_form ss c h = λ e. h
