-- What the table of operators gives.
use Rattle.std.proofs.Common.{◌≡◌, ℕ, List, [], ◌∷◌, refl, Bool, true, false, Option, Some, if◌then◌else◌}
use Rattle.std.specs.Prelude.{IfSome}
use Rattle.std.specs.Str.{bytes_eq}
use Rattle.std.proofs.lemmas.Slice.Eq.{bytes_eq-Decides}
use Rattle.xs_model.specs.declared.expr.Op.{Op}
use Rattle.xs_model.specs.declared.expr.Op.TheVariants.{Neg, Abs, Sqr, Add, Mul, Sub, Dist, Div, Mod, Pow, Min, Max, Lt, Le, Gt, Ge, Ne, Eq, Set, In, NotIn, Not, And, Or, Xor, Iff, Imp, If}
use Rattle.xs_expr.specs.Operators.{look_up, by_name}
use Rattle.xs_expr.specs.Text.{name_of}

-- each row is found by its own name, so no two names agree
pub by_name-name_of : (op : Op) → by_name (name_of op) ≡ Some op
unfolding name_of
by_name-name_of Neg = refl
by_name-name_of Abs = refl
by_name-name_of Sqr = refl
by_name-name_of Add = refl
by_name-name_of Mul = refl
by_name-name_of Sub = refl
by_name-name_of Dist = refl
by_name-name_of Div = refl
by_name-name_of Mod = refl
by_name-name_of Pow = refl
by_name-name_of Min = refl
by_name-name_of Max = refl
by_name-name_of Lt = refl
by_name-name_of Le = refl
by_name-name_of Gt = refl
by_name-name_of Ge = refl
by_name-name_of Ne = refl
by_name-name_of Eq = refl
by_name-name_of Set = refl
by_name-name_of In = refl
by_name-name_of NotIn = refl
by_name-name_of Not = refl
by_name-name_of And = refl
by_name-name_of Or = refl
by_name-name_of Xor = refl
by_name-name_of Iff = refl
by_name-name_of Imp = refl
by_name-name_of If = refl

chosen : (t : Bool) (op : Op) (r : Option Op) (name : List ℕ) → (t ≡ true → name_of op ≡ name) → IfSome r (λ d. name_of d ≡ name) → IfSome (if t then Some op else r) (λ d. name_of d ≡ name)
chosen true op r name h k = h refl
chosen false op r name h k = k

-- what is found has the name
pub look_up-named : (ops : List Op) (name : List ℕ) → IfSome (look_up ops name) (λ op. name_of op ≡ name)
look_up-named [] name = tt
look_up-named (op ∷ ops) name = chosen (bytes_eq (name_of op) name) op (look_up ops name) name (bytes_eq-Decides (name_of op) name).0 (look_up-named ops name)
