-- The operator that is found by its name.
use Rattle.std.proofs.Common.{◌≡◌, ℕ, List, refl, sym, ap, subst, ◌∙◌, Option, Some, None}
use Rattle.std.specs.Prelude.{IfSome}
use Rattle.xs_model.specs.declared.expr.Op.{Op}
use Rattle.xs_expr.specs.Operators.{all, by_name}
use Rattle.xs_expr.specs.Text.{name_of}
use Rattle.xs_expr.proofs.Named.{by_name-name_of, look_up-named}

-- what is found has the name
pub found-named : (w : List ℕ) (op : Op) → by_name w ≡ Some op → name_of op ≡ w
found-named w op e = subst (λ r. IfSome r (λ d. name_of d ≡ w)) e (look_up-named all w)

pub operator-is : (r : Option Op) (w : List ℕ) → IfSome r (λ op. name_of op ≡ w) → ((op : Op) → name_of op ≡ w → r ≡ Some op) → r ≡ by_name w
operator-is r w named every = by (by_name w) refl r refl named
  where
    by : (o : Option Op) → by_name w ≡ o → (q : Option Op) → r ≡ q → IfSome q (λ op. name_of op ≡ w) → r ≡ by_name w
    by (Some op) e q s n = every op (found-named w op e) ∙ sym e
    by None e None s n = s ∙ sym e
    by None e (Some op) s n = s ∙ sym (by_name-name_of op) ∙ ap by_name n
