-- No argument is made behind the last kind or the last expression.
use Rattle.std.proofs.Common.{◌≡◌, ℕ, zero, suc, ◌≤◌, List, [], ◌∷◌, length, drop, min, refl, arith}
use Rattle.fz_grammar.specs.declared.tree.Expr.{Expr}
use Rattle.fz_model.specs.declared.kind.Kind.{Kind}
use Rattle.fz_values.specs.declared.meaning.Meaning.{Meaning}
use Rattle.fz_values.specs.Kinds.{args_in}

no_args : (names : List (List ℕ × Meaning)) (ks : List Kind) → args_in names ks [] ≡ []
no_args names [] = refl
no_args names (k ∷ ks) = refl

pub ended : (names : List (List ℕ × Meaning)) (ks : List Kind) (xs : List Expr) (i : ℕ) → min (length ks) (length xs) ≤ i → args_in names (drop i ks) (drop i xs) ≡ []
ended names [] xs zero h = refl
ended names [] xs (suc i) h = refl
ended names (k ∷ ks) [] zero h = refl
ended names (k ∷ ks) [] (suc i) h = no_args names (drop i ks)
ended names (k ∷ ks) (x ∷ xs) zero h = absurd (omega arith)
ended names (k ∷ ks) (x ∷ xs) (suc i) h = ended names ks xs i (omega arith)
